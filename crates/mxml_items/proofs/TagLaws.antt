-- Tags: where their parts end.
use Rattle.std.proofs.Common.{◌≡◌, ◌≢◌, ℕ, ◌+◌, ◌-◌, ◌≤◌, List, [], ◌∷◌, ◌++◌, length, Bool, true, false, refl, ap, sym, ◌∙◌, subst, true≢false, append_assoc, arith}
use Rattle.std.specs.Prelude.{codes}
use Rattle.std.specs.List.{list_all}
use Rattle.std.proofs.lemmas.List.{length-append, append_cancel_left}
use Rattle.mxml_items.specs.Runs.{IsRun, StopsAt, Lacks, SplitsAt, is_in_name}
use Rattle.mxml_items.specs.Names.{IsName, BeginsWithName, HasNoName}
use Rattle.mxml_items.specs.Pieces.{is_white, is_in_text, Piece, ArePieces, IsWritten, HasNoPiece}
use Rattle.mxml_items.specs.Items.{Written, IsWhite, AreAttributes, AreWords, closing}
use Rattle.mxml_items.specs.Reading.{HasNoAttribute, BeginsWithAttributes, BeginsWithEnclosed, HasNoEnclosed, BeginsWithEndTag, HasNoEndTag, BeginsWithTag, HasNoTag, BeginsWithWords, HasNoWords, HasNoClosing}
use Rattle.mxml_items.proofs.RunLaws.{both, head, tail, same_run}
use Rattle.mxml_items.proofs.PieceLaws.{pieces_go_on}
use Rattle.mxml_items.proofs.AttributeLaws.{no_name_in_white, stops_behind_white, name_goes_on, same_name, attribute_rest, no_attribute_name}

-- what is enclosed is what stands before the first ending
pub enclosed_by : (opening ending text body content rest : List ℕ) → text ≡ opening ++ body → SplitsAt ending body content rest → BeginsWithEnclosed opening ending text content rest
enclosed_by opening ending text body content rest is s =
    record {
      is = is ∙ ap (λ x. opening ++ x) s.is;
      enclosed = record {
        is = refl;
        first = λ other back same. s.first other (back ++ rest)
            (s.is ∙ sym (append_assoc content ending rest) ∙ ap (λ x. x ++ rest) same ∙ append_assoc other (ending ++ back) rest ∙ ap (λ x. other ++ x) (append_assoc ending back rest));
      };
    }

pub no_opening : (opening ending text : List ℕ) → ((rest : List ℕ) → text ≢ opening ++ rest) → HasNoEnclosed opening ending text
no_opening opening ending text none content rest b = none (content ++ (ending ++ rest)) b.is

pub no_ending : (opening ending text body : List ℕ) → text ≡ opening ++ body → Lacks ending body → HasNoEnclosed opening ending text
no_ending opening ending text body is none content rest b = none content rest (append_cancel_left opening body (content ++ (ending ++ rest)) (sym is ∙ b.is))

-- end tags
end_spread : (name gap rest : List ℕ) → (codes "</" ++ (name ++ (gap ++ codes ">"))) ++ rest ≡ codes "</" ++ (name ++ (gap ++ (codes ">" ++ rest)))
end_spread name gap rest = ap (λ x. codes "</" ++ x) (append_assoc name (gap ++ codes ">") rest ∙ ap (λ x. name ++ x) (append_assoc gap (codes ">") rest))

end_text : (text name rest : List ℕ) (b : BeginsWithEndTag text name rest) → text ≡ codes "</" ++ (name ++ (b.is_end_tag.gap ++ (codes ">" ++ rest)))
end_text text name rest b = b.is ∙ ap (λ x. x ++ rest) b.is_end_tag.is ∙ end_spread name b.is_end_tag.gap rest

end_name : (text name rest : List ℕ) (b : BeginsWithEndTag text name rest) → BeginsWithName (name ++ (b.is_end_tag.gap ++ (codes ">" ++ rest))) name (b.is_end_tag.gap ++ (codes ">" ++ rest))
end_name text name rest b =
    record { is = refl; is_name = b.is_end_tag.is_name; stops = stops_behind_white is_in_name no_name_in_white b.is_end_tag.gap (codes ">" ++ rest) b.is_end_tag.is_gap refl }

pub no_end_opening : (text : List ℕ) → ((rest : List ℕ) → text ≢ codes "</" ++ rest) → HasNoEndTag text
no_end_opening text none name rest b = none (name ++ (b.is_end_tag.gap ++ (codes ">" ++ rest))) (end_text text name rest b)

end_body : (text body name rest : List ℕ) → text ≡ codes "</" ++ body → (b : BeginsWithEndTag text name rest) → BeginsWithName body name (b.is_end_tag.gap ++ (codes ">" ++ rest))
end_body text body name rest is b =
    subst (λ t. BeginsWithName t name (b.is_end_tag.gap ++ (codes ">" ++ rest))) (append_cancel_left (codes "</") (name ++ (b.is_end_tag.gap ++ (codes ">" ++ rest))) body (sym (end_text text name rest b) ∙ is)) (end_name text name rest b)

pub no_end_name : (text body : List ℕ) → text ≡ codes "</" ++ body → HasNoName body → HasNoEndTag text
no_end_name text body is none name rest b = none name (b.is_end_tag.gap ++ (codes ">" ++ rest)) (end_body text body name rest is b)

end_cut : (text body n behind gap end : List ℕ) → text ≡ codes "</" ++ body → BeginsWithName body n behind → IsRun is_white behind gap end → (name rest : List ℕ) → BeginsWithEndTag text name rest → codes ">" ++ rest ≡ end
end_cut text body n behind gap end is named run name rest b =
    let others = (same_name body name (b.is_end_tag.gap ++ (codes ">" ++ rest)) n behind (end_body text body name rest is b) named).1 in
    (same_run is_white b.is_end_tag.gap (codes ">" ++ rest) gap end (others ∙ run.is) b.is_end_tag.is_gap run.pass refl run.stops).1

pub no_end_closing : (text body n behind gap end : List ℕ) → text ≡ codes "</" ++ body → BeginsWithName body n behind → IsRun is_white behind gap end → ((rest : List ℕ) → end ≢ codes ">" ++ rest) → HasNoEndTag text
no_end_closing text body n behind gap end is named run none name rest b = none rest (sym (end_cut text body n behind gap end is named run name rest b))

pub end_tag_by : (text body n behind gap end rest : List ℕ) → text ≡ codes "</" ++ body → BeginsWithName body n behind → IsRun is_white behind gap end → end ≡ codes ">" ++ rest → BeginsWithEndTag text n rest
end_tag_by text body n behind gap end rest is named run closes =
    record {
      bytes = codes "</" ++ (n ++ (gap ++ codes ">"));
      is = is ∙ ap (λ x. codes "</" ++ x) (named.is ∙ ap (λ x. n ++ x) (run.is ∙ ap (λ x. gap ++ x) closes)) ∙ sym (end_spread n gap rest);
      is_end_tag = record { gap = gap; is = refl; is_name = named.is_name; is_gap = run.pass };
    }

pub end_rest : (text n r m s : List ℕ) → BeginsWithEndTag text n r → BeginsWithEndTag text m s → r ≡ s
end_rest text n r m s b d =
    let g = d.is_end_tag.gap in
    let run : IsRun is_white (g ++ (codes ">" ++ s)) g (codes ">" ++ s) = record { is = refl; pass = d.is_end_tag.is_gap; stops = refl } in
    ap tail (end_cut text (m ++ (g ++ (codes ">" ++ s))) m (g ++ (codes ">" ++ s)) g (codes ">" ++ s) (end_text text m s d) (end_name text m s d) run n r b)

-- the end of a tag
closing_stops : (test : ℕ → Bool) → test 47 ≡ false → test 62 ≡ false → (empty : Bool) (rest : List ℕ) → StopsAt test (closing empty ++ rest)
closing_stops test slash greater true rest = slash
closing_stops test slash greater false rest = greater

closing_rest : (a b : Bool) (r s : List ℕ) → closing a ++ r ≡ closing b ++ s → r ≡ s
closing_rest true true r s same = ap (λ t. tail (tail t)) same
closing_rest false false r s same = ap tail same
closing_rest true false r s same = (let e : 47 ≡ 62 = ap (head 0) same in absurd (omega (arith, e)))
closing_rest false true r s same = (let e : 62 ≡ 47 = ap (head 0) same in absurd (omega (arith, e)))

pub no_attribute_at_end : (gap : List ℕ) (empty : Bool) (rest : List ℕ) → IsWhite gap → HasNoAttribute (gap ++ (closing empty ++ rest))
no_attribute_at_end gap empty rest white =
    no_attribute_name (gap ++ (closing empty ++ rest)) gap (closing empty ++ rest) (record { is = refl; pass = white; stops = closing_stops is_white refl refl empty rest }) none
  where
    never : (name others : List ℕ) → IsName name → (empty : Bool) → name ++ others ≡ closing empty ++ rest → ⊥
    never name others is empty =
        let P : List ℕ → Type 0 = λ t. t ≡ closing empty ++ rest → ⊥ in
        name_goes_on P name others is (λ b bytes pass same. clash b bytes pass empty same)
      where
        clash : (b : ℕ) (bytes : List ℕ) → is_in_name b ≡ true → (empty : Bool) → b ∷ bytes ≡ closing empty ++ rest → ⊥
        clash b bytes pass true same = true≢false (sym pass ∙ ap is_in_name (ap (head 0) same))
        clash b bytes pass false same = true≢false (sym pass ∙ ap is_in_name (ap (head 0) same))

    none : HasNoName (closing empty ++ rest)
    none name others b = never name others b.is_name empty (sym b.is)

-- of one text all attributes are the same bytes
pub attributes_rest : (xs ys : List Written) (at place : ℕ) (x r y s : List ℕ) → AreAttributes xs at x → AreAttributes ys place y → x ++ r ≡ y ++ s → HasNoAttribute r → HasNoAttribute s → r ≡ s
attributes_rest [] [] at place x r y s h k same none no_other = sym (ap (λ t. t ++ r) h) ∙ same ∙ ap (λ t. t ++ s) k
attributes_rest [] (b ∷ ys) at place x r y s h k same none no_other =
    absurd (none place b (k.back ++ s) (record { bytes = k.front; is = sym (ap (λ t. t ++ r) h) ∙ same ∙ ap (λ t. t ++ s) k.is ∙ append_assoc k.front k.back s; is_attribute = k.first }))
attributes_rest (a ∷ xs) [] at place x r y s h k same none no_other =
    absurd (no_other at a (h.back ++ r) (record { bytes = h.front; is = sym (ap (λ t. t ++ s) k) ∙ sym same ∙ ap (λ t. t ++ r) h.is ∙ append_assoc h.front h.back r; is_attribute = h.first }))
attributes_rest (a ∷ xs) (b ∷ ys) at place x r y s h k same none no_other =
    let others = attribute_rest at place (x ++ r) a b (h.back ++ r) (k.back ++ s)
    (record { bytes = h.front; is = ap (λ t. t ++ r) h.is ∙ append_assoc h.front h.back r; is_attribute = h.first })
    (record { bytes = k.front; is = same ∙ ap (λ t. t ++ s) k.is ∙ append_assoc k.front k.back s; is_attribute = k.first }) in
    attributes_rest xs ys (at + length h.front) (place + length k.front) h.back r k.back s h.second k.second others none no_other

-- tags
tag_spread : (name list gap ends rest : List ℕ) → (codes "<" ++ (name ++ (list ++ (gap ++ ends)))) ++ rest ≡ codes "<" ++ (name ++ (list ++ (gap ++ (ends ++ rest))))
tag_spread name list gap ends rest =
    ap (λ x. codes "<" ++ x) (append_assoc name (list ++ (gap ++ ends)) rest ∙ ap (λ x. name ++ x) (append_assoc list (gap ++ ends) rest ∙ ap (λ x. list ++ x) (append_assoc gap ends rest)))

module _ (at : ℕ) (text name : List ℕ) (attributes : List Written) (empty : Bool) (rest : List ℕ) (b : BeginsWithTag at text name attributes empty rest) where
  abbrev pub tag_end : List ℕ
  tag_end = b.is_tag.gap ++ (closing empty ++ rest)

  abbrev pub behind_tag_name : List ℕ
  behind_tag_name = b.is_tag.list ++ tag_end

  pub tag_text : text ≡ codes "<" ++ (name ++ behind_tag_name)
  tag_text = b.is ∙ ap (λ x. x ++ rest) b.is_tag.is ∙ tag_spread name b.is_tag.list b.is_tag.gap (closing empty) rest

  end_stops : StopsAt is_in_name tag_end
  end_stops = stops_behind_white is_in_name no_name_in_white b.is_tag.gap (closing empty ++ rest) b.is_tag.is_gap (closing_stops is_in_name refl refl empty rest)

  list_stops : (xs : List Written) (place : ℕ) (list : List ℕ) → AreAttributes xs place list → StopsAt is_in_name (list ++ tag_end)
  list_stops [] place list h = subst (λ t. StopsAt is_in_name (t ++ tag_end)) (sym h) end_stops
  list_stops (a ∷ xs) place list h =
      let i = h.first in
      let tail_of = a.name ++ (i.before ++ (61 ∷ (i.after ++ (i.quote ∷ (a.value ++ (i.quote ∷ [])))))) in
      let spelled : list ++ tag_end ≡ i.gap ++ (tail_of ++ (h.back ++ tag_end)) =
      ap (λ t. t ++ tag_end) h.is ∙ append_assoc h.front h.back tag_end ∙ ap (λ t. t ++ (h.back ++ tag_end)) i.is ∙ append_assoc i.gap tail_of (h.back ++ tag_end) in
      subst (StopsAt is_in_name) (sym spelled) (white_first i.gap (tail_of ++ (h.back ++ tag_end)) i.some_gap i.is_gap)
    where
      white_first : (gap others : List ℕ) → 1 ≤ length gap → IsWhite gap → StopsAt is_in_name (gap ++ others)
      white_first [] others some white = absurd (omega (arith, some))
      white_first (b ∷ gap) others some white = no_name_in_white b (both (is_white b) (list_all is_white gap) white).0

  pub tag_name : BeginsWithName (name ++ behind_tag_name) name behind_tag_name
  tag_name = record { is = refl; is_name = b.is_tag.is_name; stops = list_stops attributes (at + 1 + length name) b.is_tag.list b.is_tag.are_attributes }

  pub tag_body : (body : List ℕ) → text ≡ codes "<" ++ body → BeginsWithName body name behind_tag_name
  tag_body body is = subst (λ t. BeginsWithName t name behind_tag_name) (append_cancel_left (codes "<") (name ++ behind_tag_name) body (sym tag_text ∙ is)) tag_name

  pub tag_cut : (body n behind : List ℕ) (place : ℕ) (xs : List Written) (unread gap end : List ℕ) →
      text ≡ codes "<" ++ body → BeginsWithName body n behind → BeginsWithAttributes place behind xs unread → IsRun is_white unread gap end → closing empty ++ rest ≡ end
  tag_cut body n behind place xs unread gap end is named are run =
      let others = (same_name body name behind_tag_name n behind (tag_body body is) named).1 in
      let ends = attributes_rest attributes xs (at + 1 + length name) place b.is_tag.list tag_end are.bytes unread b.is_tag.are_attributes are.are_attributes (others ∙ are.is)
      (no_attribute_at_end b.is_tag.gap empty rest b.is_tag.is_gap) are.no_more in
      (same_run is_white b.is_tag.gap (closing empty ++ rest) gap end (ends ∙ run.is) b.is_tag.is_gap run.pass (closing_stops is_white refl refl empty rest) run.stops).1

pub no_tag_opening : (text : List ℕ) → ((rest : List ℕ) → text ≢ codes "<" ++ rest) → HasNoTag text
no_tag_opening text none at name attributes empty rest b = none (name ++ behind_tag_name at text name attributes empty rest b) (tag_text at text name attributes empty rest b)

pub no_tag_name : (text body : List ℕ) → text ≡ codes "<" ++ body → HasNoName body → HasNoTag text
no_tag_name text body is none at name attributes empty rest b = none name (behind_tag_name at text name attributes empty rest b) (tag_body at text name attributes empty rest b body is)

pub no_tag_closing : (text body n behind : List ℕ) (place : ℕ) (xs : List Written) (unread gap end : List ℕ) →
    text ≡ codes "<" ++ body → BeginsWithName body n behind → BeginsWithAttributes place behind xs unread → IsRun is_white unread gap end → HasNoClosing end → HasNoTag text
no_tag_closing text body n behind place xs unread gap end is named are run none at name attributes empty rest b =
    none empty rest (sym (tag_cut at text name attributes empty rest b body n behind place xs unread gap end is named are run))

pub tag_by : (at : ℕ) (text body n behind : List ℕ) (xs : List Written) (unread gap end : List ℕ) (empty : Bool) (rest : List ℕ) →
    text ≡ codes "<" ++ body → BeginsWithName body n behind → BeginsWithAttributes (at + 1 + length n) behind xs unread → IsRun is_white unread gap end → end ≡ closing empty ++ rest → BeginsWithTag at text n xs empty rest
tag_by at text body n behind xs unread gap end empty rest is named are run closes =
    record {
      bytes = codes "<" ++ (n ++ (are.bytes ++ (gap ++ closing empty)));
      is = is ∙ ap (λ x. codes "<" ++ x) (named.is ∙ ap (λ x. n ++ x) (are.is ∙ ap (λ x. are.bytes ++ x) (run.is ∙ ap (λ x. gap ++ x) closes))) ∙ sym (tag_spread n are.bytes gap (closing empty) rest);
      is_tag = record { list = are.bytes; gap = gap; is = refl; is_name = named.is_name; are_attributes = are.are_attributes; is_gap = run.pass };
    }

pub tag_rest : (at place : ℕ) (text n m : List ℕ) (xs ys : List Written) (e f : Bool) (r s : List ℕ) → BeginsWithTag at text n xs e r → BeginsWithTag place text m ys f s → r ≡ s
tag_rest at place text n m xs ys e f r s b d =
    let gap = d.is_tag.gap in
    let end = tag_end place text m ys f s d in
    let behind = behind_tag_name place text m ys f s d in
    closing_rest e f r s
    (tag_cut at text n xs e r b (m ++ behind) m behind (place + 1 + length m) ys end gap (closing f ++ s) (tag_text place text m ys f s d) (tag_name place text m ys f s d)
    (record { bytes = d.is_tag.list; is = refl; are_attributes = d.is_tag.are_attributes; no_more = no_attribute_at_end gap f s d.is_tag.is_gap })
    (record { is = refl; pass = d.is_tag.is_gap; stops = closing_stops is_white refl refl f s }))

-- words
pub words_by : (text content rest : List ℕ) → IsWritten is_in_text text content rest → 1 ≤ length content → BeginsWithWords text content rest
words_by text content rest w some = record { is = w.is; are_words = record { not_empty = some; pieces = w.pieces; are_pieces = w.are_pieces }; no_more = w.no_more }

pub words_longest : (text content rest other others : List ℕ) → text ≡ content ++ rest → (pieces : List Piece) → ArePieces is_in_text pieces content → HasNoPiece is_in_text rest → text ≡ other ++ others → AreWords other → length other ≤ length content
words_longest text content rest other others is pieces are none same w =
    let (back, front) = pieces_go_on is_in_text pieces w.pieces content rest other others are w.are_pieces (sym is ∙ same) none in
    let long = ap length front ∙ length-append other back in
    omega (arith, long)

pub no_words : (text content rest : List ℕ) → IsWritten is_in_text text content rest → length content ≡ 0 → HasNoWords text
no_words text content rest w none other others is words =
    let short = words_longest text content rest other others w.is w.pieces w.are_pieces w.no_more is words in
    let some = words.not_empty in
    omega (arith, short, some, none)
