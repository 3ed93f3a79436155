-- An attribute begins a text, or none does; and all attributes at the front of a text.
use Rattle.std.proofs.Common.{◌≡◌, ◌⊎◌, ℕ, zero, suc, ◌+◌, ◌≤◌, List, [], ◌∷◌, ◌++◌, length, inl, inr, refl, ap, sym, ◌∙◌, subst, append_assoc, arith}
use Rattle.std.specs.Prelude.{codes}
use Rattle.mxml_items.specs.Items.{Written}
use Rattle.mxml_items.specs.Names.{HasNoName}
use Rattle.mxml_items.specs.Pieces.{is_in_value, is_white}
use Rattle.mxml_items.specs.Reading.{BeginsWithAttribute, BeginsWithAttributes, BeginsWithGiven, BeginsWithQuoted, BeginsWithValue, HasNoAttribute, HasNoGiven, HasNoQuoted, HasNoValue}
use Rattle.mxml_items.proofs.AttributeLaws.{attribute_by, attribute_is_some, given_by, no_attribute_name, no_equals, no_gap, no_given, no_quoted, value_cut}
use Rattle.mxml_items.proofs.RunLaws.{head, tail}
use Rattle.mxml_laws.proofs.Fronts.{Runs, StartsOrNot, run_of, starts_or_not}
use Rattle.mxml_laws.proofs.Names.{Named, name_or_not}
use Rattle.mxml_laws.proofs.References.{AllWritten, value_written}

abbrev Value : ℕ → List ℕ → Type 0
Value quote body = (value : List ℕ) × (rest : List ℕ) × BeginsWithValue quote body value rest

value_or_not : (quote : ℕ) (body : List ℕ) → (quote ≡ 34) ⊎ (quote ≡ 39) → Value quote body ⊎ HasNoValue quote body
value_or_not quote body is_quote = by_pieces (value_written quote body)
  where
    by_pieces : AllWritten (is_in_value quote) body → Value quote body ⊎ HasNoValue quote body
    by_pieces (value, end, w) = by (starts_or_not (quote ∷ []) end)
      where
        by : StartsOrNot (quote ∷ []) end → Value quote body ⊎ HasNoValue quote body
        by (inl (rest, ends)) = inl (value, rest, record { is = w.is ∙ ap (λ t. value ++ t) ends; is_value = record { is_quote = is_quote; pieces = w.pieces; are_pieces = w.are_pieces } })
        by (inr none) = inr (λ v r b. none r (value_cut quote body value end w v r b).1)

abbrev Quoted : List ℕ → Type 0
Quoted text = (value : List ℕ) × (rest : List ℕ) × BeginsWithQuoted text value rest

quoted_or_not : (text : List ℕ) → Quoted text ⊎ HasNoQuoted text
quoted_or_not text = by (starts_or_not (34 ∷ []) text) (starts_or_not (39 ∷ []) text)
  where
    by_quote : (quote : ℕ) (body : List ℕ) → text ≡ quote ∷ body → Value quote body ⊎ HasNoValue quote body → Quoted text ⊎ HasNoQuoted text
    by_quote quote body is (inl (value, rest, v)) = inl (value, rest, record { quote = quote; is = is ∙ ap (λ t. quote ∷ t) v.is; is_value = v.is_value })
    by_quote quote body is (inr none) = inr not_quoted
      where
        not_quoted : HasNoQuoted text
        not_quoted value rest q =
            let same : quote ≡ q.quote = ap (head 0) (sym is ∙ q.is) in
            none value rest
            (subst (λ n. BeginsWithValue n body value rest) (sym same) (record { is = ap tail (sym is ∙ q.is); is_value = q.is_value }))

    by : StartsOrNot (34 ∷ []) text → StartsOrNot (39 ∷ []) text → Quoted text ⊎ HasNoQuoted text
    by (inl (body, is)) found = by_quote 34 body is (value_or_not 34 body (inl refl))
    by (inr no_double) (inl (body, is)) = by_quote 39 body is (value_or_not 39 body (inr refl))
    by (inr no_double) (inr no_single) = inr not_quoted
      where
        not_quoted : HasNoQuoted text
        not_quoted value rest q = go q.is_value.is_quote
          where
            go : (q.quote ≡ 34) ⊎ (q.quote ≡ 39) → ⊥
            go (inl same) = no_double (value ++ (q.quote ∷ rest)) (q.is ∙ ap (λ n. n ∷ (value ++ (q.quote ∷ rest))) same)
            go (inr same) = no_single (value ++ (q.quote ∷ rest)) (q.is ∙ ap (λ n. n ∷ (value ++ (q.quote ∷ rest))) same)

abbrev Given : List ℕ → Type 0
Given text = (value : List ℕ) × (rest : List ℕ) × BeginsWithGiven text value rest

given_or_not : (text : List ℕ) → Given text ⊎ HasNoGiven text
given_or_not text = by_run (run_of is_white text)
  where
    by_run : Runs is_white text → Given text ⊎ HasNoGiven text
    by_run (gap, equals, run) = by_equals (starts_or_not (codes "=") equals)
      where
        by_equals : StartsOrNot (codes "=") equals → Given text ⊎ HasNoGiven text
        by_equals (inr none) = inr (no_equals text gap equals run none)
        by_equals (inl (before, is)) = by_second (run_of is_white before)
          where
            by_second : Runs is_white before → Given text ⊎ HasNoGiven text
            by_second (after, quoted, second) = by (quoted_or_not quoted)
              where
                by : Quoted quoted ⊎ HasNoQuoted quoted → Given text ⊎ HasNoGiven text
                by (inl (value, rest, q)) = inl (value, rest, given_by text gap equals before after quoted value rest run is second q)
                by (inr none) = inr (no_quoted text gap equals before after quoted run is second none)

abbrev Attribute : ℕ → List ℕ → Type 0
Attribute at text = (a : Written) × (rest : List ℕ) × BeginsWithAttribute at text a rest

attribute_or_not : (at : ℕ) (text : List ℕ) → Attribute at text ⊎ HasNoAttribute text
attribute_or_not at text = by_run (run_of is_white text)
  where
    by_run : Runs is_white text → Attribute at text ⊎ HasNoAttribute text
    by_run ([], behind, run) = inr (no_gap text [] behind run refl)
    by_run (b ∷ gap, behind, run) = by_name (name_or_not behind)
      where
        by_name : Named behind ⊎ HasNoName behind → Attribute at text ⊎ HasNoAttribute text
        by_name (inr none) = inr (no_attribute_name text (b ∷ gap) behind run none)
        by_name (inl (name, given, named)) = by (given_or_not given)
          where
            by : Given given ⊎ HasNoGiven given → Attribute at text ⊎ HasNoAttribute text
            by (inl (value, rest, g)) = inl (_, rest, attribute_by at text (b ∷ gap) behind name given value rest run (omega arith) named g)
            by (inr none) = inr (no_given text (b ∷ gap) behind name given run named none)

abbrev pub Attributes : ℕ → List ℕ → Type 0
Attributes at text = (attributes : List Written) × (rest : List ℕ) × BeginsWithAttributes at text attributes rest

no_attributes : (at : ℕ) (text : List ℕ) → HasNoAttribute text → Attributes at text
no_attributes at text none = ([], text, record { bytes = []; is = refl; are_attributes = refl; no_more = none })

up_to : (n at : ℕ) (text : List ℕ) → length text ≤ n → Attributes at text
up_to zero at text short = by (attribute_or_not at text)
  where
    by : Attribute at text ⊎ HasNoAttribute text → Attributes at text
    by (inr none) = no_attributes at text none
    by (inl (a, rest, b)) = (let less = attribute_is_some at text a rest b in absurd (omega (arith, less, short)))
up_to (suc n) at text short = by (attribute_or_not at text) (up_to n)
  where
    by : Attribute at text ⊎ HasNoAttribute text → ((at : ℕ) (text : List ℕ) → length text ≤ n → Attributes at text) → Attributes at text
    by (inr none) further = no_attributes at text none
    by (inl (a, rest, b)) further =
        let less = attribute_is_some at text a rest b in
        let (others, behind, c) = further (at + length b.bytes) rest (omega (arith, less, short)) in (
          a ∷ others,
          behind,
          record {
            bytes = b.bytes ++ c.bytes;
            is = b.is ∙ ap (λ t. b.bytes ++ t) c.is ∙ sym (append_assoc b.bytes c.bytes behind);
            are_attributes = record { front = b.bytes; back = c.bytes; is = refl; first = b.is_attribute; second = c.are_attributes };
            no_more = c.no_more;
          },
        )

pub attributes_of : (at : ℕ) (text : List ℕ) → Attributes at text
attributes_of at text = up_to (length text) at text (omega arith)
