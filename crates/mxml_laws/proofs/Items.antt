-- An item begins a text, or none does; and the items of a text.
use Rattle.std.proofs.Common.{◌≡◌, ◌⊎◌, ℕ, zero, suc, ◌+◌, ◌-◌, ◌<◌, ◌≤◌, List, [], ◌∷◌, ◌++◌, length, Bool, true, false, inl, inr, refl, subst, arith}
use Rattle.std.specs.Prelude.{codes}
use Rattle.mxml_items.specs.Items.{AreItems, BeginsWithItem, Item, NoItemBegins, Placed, Tag, Written, closing}
use Rattle.mxml_items.specs.Names.{HasNoName}
use Rattle.mxml_items.specs.Pieces.{is_in_text, is_white}
use Rattle.mxml_items.specs.Reading.{BeginsWithEnclosed, BeginsWithEndTag, BeginsWithTag, BeginsWithWords, HasNoClosing, HasNoEnclosed, HasNoEndTag, HasNoTag, HasNoWords}
use Rattle.mxml_items.specs.Runs.{Lacks}
use Rattle.mxml_items.specs.Texts.{IsBegun, mark}
use Rattle.mxml_items.proofs.ItemLaws.{cdata_by, comment_by, end_tag_item, instruction_by, item_by, no_item, words_item}
use Rattle.mxml_items.proofs.TagLaws.{enclosed_by, end_tag_by, no_end_closing, no_end_name, no_end_opening, no_ending, no_opening, no_tag_closing, no_tag_name, no_tag_opening, no_words, tag_by, words_by}
use Rattle.mxml_items.proofs.TextLaws.{item_shortens}
use Rattle.mxml_laws.proofs.Attributes.{Attributes, attributes_of}
use Rattle.mxml_laws.proofs.Fronts.{Runs, Splits, StartsOrNot, run_of, splits_or_not, starts_or_not}
use Rattle.mxml_laws.proofs.Names.{Named, name_or_not}
use Rattle.mxml_laws.proofs.References.{AllWritten, text_written}

abbrev Enclosed : List ℕ → List ℕ → List ℕ → Type 0
Enclosed opening ending text = (content : List ℕ) × (rest : List ℕ) × BeginsWithEnclosed opening ending text content rest

abbrev EnclosedOrNot : List ℕ → List ℕ → List ℕ → Type 0
EnclosedOrNot opening ending text = Enclosed opening ending text ⊎ HasNoEnclosed opening ending text

enclosed_or_not : (opening ending text : List ℕ) → EnclosedOrNot opening ending text
enclosed_or_not opening ending text = by_opening (starts_or_not opening text)
  where
    by_opening : StartsOrNot opening text → EnclosedOrNot opening ending text
    by_opening (inr none) = inr (no_opening opening ending text none)
    by_opening (inl (body, is)) = by (splits_or_not ending body)
      where
        by : Splits ending body ⊎ Lacks ending body → EnclosedOrNot opening ending text
        by (inl (content, rest, s)) = inl (content, rest, enclosed_by opening ending text body content rest is s)
        by (inr none) = inr (no_ending opening ending text body is none)

abbrev EndTag : List ℕ → Type 0
EndTag text = (name : List ℕ) × (rest : List ℕ) × BeginsWithEndTag text name rest

end_tag_or_not : (text : List ℕ) → EndTag text ⊎ HasNoEndTag text
end_tag_or_not text = by_opening (starts_or_not (codes "</") text)
  where
    by_opening : StartsOrNot (codes "</") text → EndTag text ⊎ HasNoEndTag text
    by_opening (inr none) = inr (no_end_opening text none)
    by_opening (inl (body, is)) = by_name (name_or_not body)
      where
        by_name : Named body ⊎ HasNoName body → EndTag text ⊎ HasNoEndTag text
        by_name (inr none) = inr (no_end_name text body is none)
        by_name (inl (name, behind, named)) = by_run (run_of is_white behind)
          where
            by_run : Runs is_white behind → EndTag text ⊎ HasNoEndTag text
            by_run (gap, end, run) = by (starts_or_not (codes ">") end)
              where
                by : StartsOrNot (codes ">") end → EndTag text ⊎ HasNoEndTag text
                by (inl (rest, closes)) = inl (name, rest, end_tag_by text body name behind gap end rest is named run closes)
                by (inr none) = inr (no_end_closing text body name behind gap end is named run none)

abbrev Words : List ℕ → Type 0
Words text = (content : List ℕ) × (rest : List ℕ) × BeginsWithWords text content rest

words_or_not : (text : List ℕ) → Words text ⊎ HasNoWords text
words_or_not text = by (text_written text)
  where
    by : AllWritten is_in_text text → Words text ⊎ HasNoWords text
    by ([], rest, w) = inr (no_words text [] rest w refl)
    by (b ∷ content, rest, w) = inl (b ∷ content, rest, words_by text (b ∷ content) rest w (omega arith))

abbrev Closing : List ℕ → Type 0
Closing text = (empty : Bool) × (rest : List ℕ) × (text ≡ closing empty ++ rest)

closing_or_not : (text : List ℕ) → Closing text ⊎ HasNoClosing text
closing_or_not text = by (starts_or_not (codes "/>") text) (starts_or_not (codes ">") text)
  where
    by : StartsOrNot (codes "/>") text → StartsOrNot (codes ">") text → Closing text ⊎ HasNoClosing text
    by (inl (rest, is)) found = inl (true, rest, is)
    by (inr not_empty) (inl (rest, is)) = inl (false, rest, is)
    by (inr not_empty) (inr not_start) = inr none
      where
        none : HasNoClosing text
        none true rest same = not_empty rest same
        none false rest same = not_start rest same

record TagAt (at : ℕ) (text : List ℕ) : Type 0 where
  name : List ℕ
  attributes : List Written
  empty : Bool
  rest : List ℕ
  begins : BeginsWithTag at text name attributes empty rest

tag_or_not : (at : ℕ) (text : List ℕ) → TagAt at text ⊎ HasNoTag text
tag_or_not at text = by_opening (starts_or_not (codes "<") text)
  where
    by_opening : StartsOrNot (codes "<") text → TagAt at text ⊎ HasNoTag text
    by_opening (inr none) = inr (no_tag_opening text none)
    by_opening (inl (body, is)) = by_name (name_or_not body)
      where
        by_name : Named body ⊎ HasNoName body → TagAt at text ⊎ HasNoTag text
        by_name (inr none) = inr (no_tag_name text body is none)
        by_name (inl (name, behind, named)) = by_attributes (attributes_of (at + 1 + length name) behind)
          where
            by_attributes : Attributes (at + 1 + length name) behind → TagAt at text ⊎ HasNoTag text
            by_attributes (attributes, unread, are) = by_run (run_of is_white unread)
              where
                by_run : Runs is_white unread → TagAt at text ⊎ HasNoTag text
                by_run (gap, end, run) = by (closing_or_not end)
                  where
                    by : Closing end ⊎ HasNoClosing end → TagAt at text ⊎ HasNoTag text
                    by (inl (empty, rest, closes)) =
                        inl (record { name = name; attributes = attributes; empty = empty; rest = rest; begins = tag_by at text body name behind attributes unread gap end empty rest is named are run closes })
                    by (inr none) = inr (no_tag_closing text body name behind (at + 1 + length name) attributes unread gap end is named are run none)

abbrev ItemAt : ℕ → List ℕ → Type 0
ItemAt at text = (item : Item) × (rest : List ℕ) × BeginsWithItem item at text rest

item_or_not : (at : ℕ) (text : List ℕ) → ItemAt at text ⊎ NoItemBegins at text
item_or_not at text =
    by (enclosed_or_not (codes "<?") (codes "?>") text) (enclosed_or_not (codes "<!--") (codes "-->") text) (enclosed_or_not (codes "<![CDATA[") (codes "]]>") text)
    (end_tag_or_not text) (words_or_not text) (tag_or_not at text)
  where
    by : EnclosedOrNot (codes "<?") (codes "?>") text → EnclosedOrNot (codes "<!--") (codes "-->") text → EnclosedOrNot (codes "<![CDATA[") (codes "]]>") text
        → EndTag text ⊎ HasNoEndTag text → Words text ⊎ HasNoWords text → TagAt at text ⊎ HasNoTag text → ItemAt at text ⊎ NoItemBegins at text
    by (inl (content, rest, b)) _ _ _ _ _ = inl (_, rest, instruction_by at text content rest b)
    by (inr a) (inl (content, rest, b)) _ _ _ _ = inl (_, rest, comment_by at text content rest b)
    by (inr a) (inr b) (inl (content, rest, c)) _ _ _ = inl (_, rest, cdata_by at text content rest c)
    by (inr a) (inr b) (inr c) (inl (name, rest, d)) _ _ = inl (_, rest, end_tag_item at text name rest d)
    by (inr a) (inr b) (inr c) (inr d) (inl (content, rest, e)) _ = inl (_, rest, words_item at text content rest e)
    by (inr a) (inr b) (inr c) (inr d) (inr e) (inl f) = inl (Tag f.name f.attributes f.empty, f.rest, item_by (Tag f.name f.attributes f.empty) at text f.begins.bytes f.rest f.begins.is f.begins.is_tag tt)
    by (inr a) (inr b) (inr c) (inr d) (inr e) (inr f) = inr (no_item at text a b c d e f)

-- the items of a text from a place on, up to one where none begins
pub record ItemsOf (at : ℕ) (text : List ℕ) : Type 0 where
  pub items : List Placed
  pub end : ℕ
  pub rest : List ℕ
  pub are : AreItems items end rest at text
  pub no_more : NoItemBegins end rest

no_items : (at : ℕ) (text : List ℕ) → NoItemBegins at text → ItemsOf at text
no_items at text none = record { items = []; end = at; rest = text; are = (refl, refl); no_more = none }

rest_is_shorter : (item : Item) (at : ℕ) (text rest : List ℕ) → BeginsWithItem item at text rest → length rest < length text
rest_is_shorter item at text rest b =
    let size = at + length text in
    let here : at ≡ size - length text = omega arith in
    item_shortens size text (record { item = item; at = size - length text; end = size - length rest }) rest
    (record { begins = subst (λ n. BeginsWithItem item n text rest) here b; stands = refl; ends = refl })

up_to : (n at : ℕ) (text : List ℕ) → length text ≤ n → ItemsOf at text
up_to zero at text short = by (item_or_not at text)
  where
    by : ItemAt at text ⊎ NoItemBegins at text → ItemsOf at text
    by (inr none) = no_items at text none
    by (inl (item, rest, b)) = (let less = rest_is_shorter item at text rest b in absurd (omega (arith, less, short)))
up_to (suc n) at text short = by (item_or_not at text) (up_to n)
  where
    by : ItemAt at text ⊎ NoItemBegins at text → ((at : ℕ) (text : List ℕ) → length text ≤ n → ItemsOf at text) → ItemsOf at text
    by (inr none) further = no_items at text none
    by (inl (item, rest, b)) further =
        let less = rest_is_shorter item at text rest b in
        let end = at + (length text - length rest) in
        let others = further end rest (omega (arith, less, short)) in
        record {
          items = record { item = item; at = at; end = end } ∷ others.items;
          end = others.end;
          rest = others.rest;
          are = record { rest = rest; begins = b; stands = refl; ends = omega (arith, less); go_on = others.are };
          no_more = others.no_more;
        }

pub items_of : (at : ℕ) (text : List ℕ) → ItemsOf at text
items_of at text = up_to (length text) at text (omega arith)

-- where a text begins
pub begun_of : (text : List ℕ) → (begun : List ℕ) × IsBegun text begun
begun_of text = by (starts_or_not mark text)
  where
    by : StartsOrNot mark text → (begun : List ℕ) × IsBegun text begun
    by (inl (begun, is)) = (begun, inl is)
    by (inr none) = (text, inr (refl, none))
