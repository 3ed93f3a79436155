-- The tags up to End are read, and what is read is there.
use Rattle.flex_base.proofs.ResultLaws.{ok_is}
use Rattle.std.proofs.Common.{◌≡◌, ℕ, zero, suc, ◌+◌, ◌≤◌, Bool, true, false, List, [], ◌∷◌, ◌++◌, length, Option, Some, None, Result, Ok, Err, refl, sym, ap, ap₂, subst, ◌∙◌, inl, inr, arith, append_assoc}
use Rattle.std.specs.Prelude.{if◌then◌else◌, ◌==◌, ◌≢◌}
use Rattle.std.specs.Option.{is_none}
use Rattle.std.proofs.lemmas.Bool.{eq-eqb, ne_eqb, eqb-true, eqb-false, cases_eq}
use Rattle.flex_base.specs.Split.{Split, Each}
use Rattle.swf_tags.specs.Spelling.{end_tag, symbol_class, do_abc}
use Rattle.swf_tags.specs.File.{AreBytes, Part, Pair, IsPart, EndsOnce, bodies, IsProgram, IsDoAbc, AreSymbols, IsSymbolClass, first_of, main_in, main_among, part_size, tag_at, tags_at}
use Rattle.swf_tags.specs.Fields.{Front}
use Rattle.swf_tags.specs.Reading.{next_part, read_program, read_symbols, with_program, with_symbols, with_body, ended, go_on, after_part, read_tags, fails}
use Rattle.swf_tags.specs.declared.types.Seen.{Seen}
use Rattle.swf_tags.specs.declared.types.Fault.{Fault}
use Rattle.swf_tags.specs.declared.types.Swf.{Swf}
use Rattle.swf_tags.specs.declared.types.SwfReason.TheVariants as reason
use Rattle.swf_tags.specs.declared.types.Tag.{Tag}
use Rattle.swf_tags.proofs.FieldLaws.{append-bytes}
use Rattle.swf_tags.proofs.PartLaws.{part-front, part-gives, program-read, program-gives, symbols-read, symbols-give, first_of-first_of, first_of-none}

-- the program is known already, or stands once
abbrev pub ProgramComes : Option (List ℕ) → List ℕ → List (List ℕ) → Type 0
ProgramComes None abc programs = IsProgram abc programs
ProgramComes (Some known) abc programs = (known ≡ abc) × (programs ≡ [])

-- what the tags from here on say, behind those so far and what they gave
pub record TagsSay (version place : ℕ) (tags : List Tag) (s : Seen) (bytes : List ℕ) (swf : Swf) : Type 0 where
  pub tag_bytes : List ℕ
  pub behind : List ℕ
  pub parts : List Part
  pub symbols : List (List Pair)
  pub is : bytes ≡ tag_bytes ++ behind
  pub each : Each IsPart parts tag_bytes
  pub ends : EndsOnce parts
  pub said : swf.version ≡ version
  pub placed : swf.tags ≡ tags ++ tags_at place parts
  pub program : ProgramComes s.abc swf.abc (bodies do_abc parts)
  pub named : AreSymbols symbols (bodies symbol_class parts)
  pub main_class : first_of s.main (main_among symbols) ≡ Some swf.main

-- the bodies behind one tag
bodies-here : (code : ℕ) (part : Part) (parts : List Part) → part.code ≡ code → bodies code (part ∷ parts) ≡ part.body ∷ bodies code parts
bodies-here code part parts e = ap (λ t. if t then part.body ∷ bodies code parts else bodies code parts) (eq-eqb part.code code e)

bodies-other : (code : ℕ) (part : Part) (parts : List Part) → part.code ≢ code → bodies code (part ∷ parts) ≡ bodies code parts
bodies-other code part parts e = ap (λ t. if t then part.body ∷ bodies code parts else bodies code parts) (ne_eqb part.code code e)

-- the three kinds of tags before End
body-program : (place : ℕ) (s : Seen) (code : ℕ) (body : List ℕ) → code ≡ do_abc → with_body place s code body ≡ with_program place s (read_program body)
unfolding with_body
body-program place s code body e =
    ap (λ t. if t then with_program place s (read_program body) else if code == symbol_class then with_symbols place s (read_symbols body) else Ok s) (eq-eqb code do_abc e)

body-symbols : (place : ℕ) (s : Seen) (code : ℕ) (body : List ℕ) → code ≢ do_abc → code ≡ symbol_class → with_body place s code body ≡ with_symbols place s (read_symbols body)
unfolding with_body
body-symbols place s code body d e =
    ap (λ t. if t then with_program place s (read_program body) else if code == symbol_class then with_symbols place s (read_symbols body) else Ok s) (ne_eqb code do_abc d)
    ∙ ap (λ t. if t then with_symbols place s (read_symbols body) else Ok s) (eq-eqb code symbol_class e)

body-other : (place : ℕ) (s : Seen) (code : ℕ) (body : List ℕ) → code ≢ do_abc → code ≢ symbol_class → with_body place s code body ≡ Ok s
unfolding with_body
body-other place s code body d e =
    ap (λ t. if t then with_program place s (read_program body) else if code == symbol_class then with_symbols place s (read_symbols body) else Ok s) (ne_eqb code do_abc d)
    ∙ ap (λ t. if t then with_symbols place s (read_symbols body) else Ok s) (ne_eqb code symbol_class e)

-- what one more tag gave, and what the tags behind it have to say
record Given (place : ℕ) (s : Seen) (part : Part) (parts : List Part) (symbols : List (List Pair)) (abc main : List ℕ) : Type 0 where
  after : Seen
  rest : List (List Pair)
  is : with_body place s part.code part.body ≡ Ok after
  program : ProgramComes after.abc abc (bodies do_abc parts)
  named : AreSymbols rest (bodies symbol_class parts)
  main_class : first_of after.main (main_among rest) ≡ Some main

-- one more body of a program
program-given : (known : Option (List ℕ)) (abc body : List ℕ) (programs : List (List ℕ)) → ProgramComes known abc (body ∷ programs) → (known ≡ None) × (IsDoAbc abc body × (programs ≡ []))
program-given None abc body programs w =
    let first : w.body ≡ body = cc in
    let others : programs ≡ [] = cc in
    (refl, (subst (IsDoAbc abc) first w.holds, others))
program-given (Some known) abc body programs w = let none = w.1 in cc

-- one more body of a SymbolClass
record SymbolsGiven (symbols : List (List Pair)) (body : List ℕ) (others : List (List ℕ)) : Type 0 where
  pairs : List Pair
  rest : List (List Pair)
  is : symbols ≡ pairs ∷ rest
  holds : IsSymbolClass pairs body
  more : AreSymbols rest others

symbols-given : (symbols : List (List Pair)) (body : List ℕ) (others : List (List ℕ)) → AreSymbols symbols (body ∷ others) → SymbolsGiven symbols body others
symbols-given [] body others w = absurd w
symbols-given (pairs ∷ rest) body others w = record { pairs = pairs; rest = rest; is = refl; holds = w.0; more = w.1 }

given : (place : ℕ) (s : Seen) (part : Part) (parts : List Part) (symbols : List (List Pair)) (abc main : List ℕ) → ProgramComes s.abc abc (bodies do_abc (part ∷ parts))
    → AreSymbols symbols (bodies symbol_class (part ∷ parts)) → first_of s.main (main_among symbols) ≡ Some main → Given place s part parts symbols abc main
given place s part parts symbols abc main program named main_class =
    elim (cases_eq part.code do_abc) [
      | inl one ↦
          let here = program-given s.abc abc part.body (bodies do_abc parts) (subst (ProgramComes s.abc abc) (bodies-here do_abc part parts one) program) in
          record {
            after = record { abc = Some abc; main = s.main };
            rest = symbols;
            is =
                body-program place s part.code part.body one
                ∙ ap (with_program place s) (program-read abc part.body here.1.0)
                ∙ ap (λ o. if is_none o then Ok (record { abc = Some abc; main = s.main }) else fails place reason.TwoAbc) here.0;
            program = (refl, here.1.1);
            named = subst (AreSymbols symbols) (bodies-other symbol_class part parts (λ e. omega arith)) named;
            main_class = main_class;
          }
      | inr other ↦ elim (cases_eq part.code symbol_class) [
        | inl one ↦
            let here = symbols-given symbols part.body (bodies symbol_class parts) (subst (AreSymbols symbols) (bodies-here symbol_class part parts one) named) in
            record {
              after = record { abc = s.abc; main = first_of s.main (main_in here.pairs) };
              rest = here.rest;
              is = body-symbols place s part.code part.body other one ∙ ap (with_symbols place s) (symbols-read here.pairs part.body here.holds);
              program = subst (ProgramComes s.abc abc) (bodies-other do_abc part parts other) program;
              named = here.more;
              main_class = first_of-first_of s.main (main_in here.pairs) (main_among here.rest) ∙ ap (λ l. first_of s.main (main_among l)) (sym here.is) ∙ main_class;
            }
        | inr neither ↦
            record {
              after = s;
              rest = symbols;
              is = body-other place s part.code part.body other neither;
              program = subst (ProgramComes s.abc abc) (bodies-other do_abc part parts other) program;
              named = subst (AreSymbols symbols) (bodies-other symbol_class part parts neither) named;
              main_class = main_class;
            }
      ]
    ]

known : (s : Option (List ℕ)) (abc : List ℕ) → ProgramComes s abc [] → s ≡ Some abc
known None abc w = let none = w.one in cc
known (Some a) abc w = ap Some w.0

no-symbols : (symbols : List (List Pair)) → AreSymbols symbols [] → symbols ≡ []
no-symbols [] w = refl
no-symbols (pairs ∷ symbols) w = absurd w

-- the tags are read
pub tags-read : (parts : List Part) (k version place : ℕ) (tags : List Tag) (s : Seen) (bytes behind : List ℕ) (symbols : List (List Pair)) (abc main : List ℕ) → length parts ≤ k
    → Each IsPart parts bytes → EndsOnce parts → ProgramComes s.abc abc (bodies do_abc parts) → AreSymbols symbols (bodies symbol_class parts)
    → first_of s.main (main_among symbols) ≡ Some main
    → read_tags k version place tags s (bytes ++ behind) ≡ Ok (record { version = version; tags = tags ++ tags_at place parts; abc = abc; main = main })
tags-read [] k version place tags s bytes behind symbols abc main enough each ends program named main_class = absurd ends
tags-read (part ∷ parts) zero version place tags s bytes behind symbols abc main enough each ends program named main_class = absurd (omega arith)
tags-read (part ∷ parts) (suc k) version place tags s bytes behind symbols abc main enough each ends program named main_class =
    let rest = each.back ++ behind in
    let more = tags ++ tag_at place part ∷ [] in
    let closing = ended version more place s.abc s.main in
    let on : Seen → Result Swf Fault = λ t. read_tags k version (place + part_size part) more t rest in
    let going = go_on on (with_body place s part.code part.body) in
    ap (λ l. read_tags (suc k) version place tags s (l ++ behind)) each.is
    ∙ ap (read_tags (suc k) version place tags s) (append_assoc each.front each.back behind)
    ∙ ap (after_part (λ at m t r. read_tags k version at m t r) version place tags s) (part-front place part each.front rest each.first)
    ∙ elim ends [
      | inl last ↦
          let no_program = subst (ProgramComes s.abc abc) (ap (λ l. bodies do_abc (part ∷ l)) last.1 ∙ bodies-other do_abc part [] (λ e. omega arith)) program in
          let no_names = no-symbols symbols (subst (AreSymbols symbols) (ap (λ l. bodies symbol_class (part ∷ l)) last.1 ∙ bodies-other symbol_class part [] (λ e. omega arith)) named) in
          ap (λ t. if t then closing else going) (eq-eqb part.code end_tag last.0)
          ∙ ap₂ (ended version more place) (known s.abc abc no_program) (sym (first_of-none s.main) ∙ ap (λ l. first_of s.main (main_among l)) (sym no_names) ∙ main_class)
          ∙ ap (λ l. Ok (record { version = version; tags = tags ++ tags_at place (part ∷ l); abc = abc; main = main })) (sym last.1)
      | inr more_tags ↦
          let g = given place s part parts symbols abc main program named main_class in
          ap (λ t. if t then closing else going) (ne_eqb part.code end_tag more_tags.0)
          ∙ ap (go_on on) g.is
          ∙ tags-read parts k version (place + part_size part) more g.after each.back behind g.rest abc main (omega arith) each.second more_tags.1 g.program g.named g.main_class
          ∙ ap (λ l. Ok (record { version = version; tags = l; abc = abc; main = main })) (append_assoc tags (tag_at place part ∷ []) (tags_at (place + part_size part) parts))
    ]

-- a tag before those that are there
record Taken (place : ℕ) (s after : Seen) (part : Part) (parts : List Part) (symbols : List (List Pair)) (abc main : List ℕ) : Type 0 where
  all : List (List Pair)
  program : ProgramComes s.abc abc (bodies do_abc (part ∷ parts))
  named : AreSymbols all (bodies symbol_class (part ∷ parts))
  main_class : first_of s.main (main_among all) ≡ Some main

module _ (place : ℕ) (s after : Seen) (part : Part) (parts : List Part) (symbols : List (List Pair)) (abc main : List ℕ) (are : AreBytes part.body) (program : ProgramComes after.abc abc (bodies do_abc parts))
    (named : AreSymbols symbols (bodies symbol_class parts)) (main_class : first_of after.main (main_among symbols) ≡ Some main) where
  taken-program : part.code ≡ do_abc → (o : Option (List ℕ)) → read_program part.body ≡ o → with_program place s o ≡ Ok after → Taken place s after part parts symbols abc main
  taken-program one None f g = cc
  taken-program one (Some read) f g = by s.abc refl g
    where
      by : (known : Option (List ℕ)) → s.abc ≡ known → (if is_none known then Ok (record { abc = Some read; main = s.main }) else fails place reason.TwoAbc) ≡ Ok after → Taken place s after part parts symbols abc main
      by (Some known) d e = cc
      by None d e =
          let same = ok_is (Ok (record { abc = Some read; main = s.main })) _ _ refl e in
          let all : (read ≡ abc) × (bodies do_abc parts ≡ []) = subst (λ (t : Seen). ProgramComes t.abc abc (bodies do_abc parts)) (sym same) program in
          let stands : IsProgram abc (bodies do_abc (part ∷ parts)) = record {
            body = part.body;
            one = bodies-here do_abc part parts one ∙ ap (λ l. part.body ∷ l) all.1;
            holds = program-gives abc part.body (f ∙ ap Some all.0);
          } in
          record {
            all = symbols;
            program = subst (λ (k : Option (List ℕ)). ProgramComes k abc (bodies do_abc (part ∷ parts))) (sym d) stands;
            named = subst (AreSymbols symbols) (sym (bodies-other symbol_class part parts (λ c. omega arith))) named;
            main_class = ap (λ (t : Seen). first_of t.main (main_among symbols)) same ∙ main_class;
          }

  taken-symbols : part.code ≢ do_abc → part.code ≡ symbol_class → (o : Option (Option (List ℕ))) → read_symbols part.body ≡ o → with_symbols place s o ≡ Ok after → Taken place s after part parts symbols abc main
  taken-symbols other one None f g = cc
  taken-symbols other one (Some found) f g =
      let same = ok_is (Ok (record { abc = s.abc; main = first_of s.main found })) _ _ refl g in
      let stands = symbols-give found part.body are f in
      record {
        all = stands.pairs ∷ symbols;
        program = subst (ProgramComes s.abc abc) (sym (bodies-other do_abc part parts other)) (subst (λ (t : Seen). ProgramComes t.abc abc (bodies do_abc parts)) (sym same) program);
        named = subst (AreSymbols (stands.pairs ∷ symbols)) (sym (bodies-here symbol_class part parts one)) (stands.holds, named);
        main_class =
            sym (first_of-first_of s.main (main_in stands.pairs) (main_among symbols))
            ∙ ap (λ o. first_of (first_of s.main o) (main_among symbols)) (sym stands.is)
            ∙ ap (λ (t : Seen). first_of t.main (main_among symbols)) same
            ∙ main_class;
      }

  taken-other : part.code ≢ do_abc → part.code ≢ symbol_class → with_body place s part.code part.body ≡ Ok after → Taken place s after part parts symbols abc main
  taken-other other neither g =
      let same = ok_is (with_body place s part.code part.body) _ _ (body-other place s part.code part.body other neither) g in
      record {
        all = symbols;
        program = subst (ProgramComes s.abc abc) (sym (bodies-other do_abc part parts other)) (subst (λ (t : Seen). ProgramComes t.abc abc (bodies do_abc parts)) (sym same) program);
        named = subst (AreSymbols symbols) (sym (bodies-other symbol_class part parts neither)) named;
        main_class = ap (λ (t : Seen). first_of t.main (main_among symbols)) same ∙ main_class;
      }

  taken : with_body place s part.code part.body ≡ Ok after → Taken place s after part parts symbols abc main
  taken g =
      elim (cases_eq part.code do_abc) [
        | inl one ↦ taken-program one (read_program part.body) refl (sym (body-program place s part.code part.body one) ∙ g)
        | inr other ↦ elim (cases_eq part.code symbol_class) [
          | inl one ↦ taken-symbols other one (read_symbols part.body) refl (sym (body-symbols place s part.code part.body other one) ∙ g)
          | inr neither ↦ taken-other other neither g
        ]
      ]

-- at the End
ended-gives : (version place : ℕ) (tags : List Tag) (swf : Swf) (abc main : Option (List ℕ)) → ended version tags place abc main ≡ Ok swf
    → (swf.version ≡ version) × ((swf.tags ≡ tags) × ((abc ≡ Some swf.abc) × (main ≡ Some swf.main)))
ended-gives version place tags swf None main e = cc
ended-gives version place tags swf (Some abc) None e = cc
ended-gives version place tags swf (Some abc) (Some main) e =
    let same = ok_is (ended version tags place (Some abc) (Some main)) _ _ refl e in
    (ap (λ (w : Swf). w.version) (sym same), (ap (λ (w : Swf). w.tags) (sym same), (ap (λ (w : Swf). Some w.abc) same, ap (λ (w : Swf). Some w.main) same)))

program-known : (s : Option (List ℕ)) (abc : List ℕ) → s ≡ Some abc → ProgramComes s abc []
program-known s abc e = subst (λ (k : Option (List ℕ)). ProgramComes k abc []) (sym e) (refl, refl)

-- what is read of fewer tags is there
abbrev Inner : ℕ → ℕ → Swf → Type 0
Inner k version swf = (at : ℕ) (more : List Tag) (t : Seen) (rest : List ℕ) → AreBytes rest → read_tags k version at more t rest ≡ Ok swf → TagsSay version at more t rest swf

-- the tags that are read are there
pub tags-give : (k version place : ℕ) (tags : List Tag) (s : Seen) (bytes : List ℕ) (swf : Swf) → AreBytes bytes → read_tags k version place tags s bytes ≡ Ok swf → TagsSay version place tags s bytes swf
tags-give zero version place tags s bytes swf are e = cc
tags-give (suc k) version place tags s bytes swf are e =
    part (λ at more t rest small f. tags-give k version at more t rest swf small f) (next_part place bytes) refl e
  where
    here : Front Part → List Tag
    here p = tags ++ tag_at place p.it ∷ []

    on : Front Part → Seen → Result Swf Fault
    on p t = read_tags k version (place + part_size p.it) (here p) t p.rest

    going : Inner k version swf → (p : Front Part) → Split (IsPart p.it) (λ back. back ≡ p.rest) bytes → p.it.code ≢ end_tag → (r : Result Seen Fault) → with_body place s p.it.code p.it.body ≡ r → go_on (on p) r ≡ Ok swf
        → TagsSay version place tags s bytes swf
    going inner p w other (Err fault) f g = cc
    going inner p w other (Ok t) f g =
        let is : bytes ≡ w.front ++ p.rest = w.is ∙ ap (λ l. w.front ++ l) w.second in
        let small = append-bytes w.front p.rest bytes is are in
        let body_is : w.front ≡ w.first.front ++ p.it.body = w.first.is ∙ ap (λ l. w.first.front ++ l) w.first.second in
        let body_small = (append-bytes w.first.front p.it.body w.front body_is small.0).1 in
        let more = inner (place + part_size p.it) (here p) t p.rest small.1 g in
        let one = taken place s t p.it more.parts more.symbols swf.abc swf.main body_small more.program more.named more.main_class f in
        record {
          tag_bytes = w.front ++ more.tag_bytes;
          behind = more.behind;
          parts = p.it ∷ more.parts;
          symbols = one.all;
          is = is ∙ ap (λ l. w.front ++ l) more.is ∙ sym (append_assoc w.front more.tag_bytes more.behind);
          each = record { front = w.front; back = more.tag_bytes; is = refl; first = w.first; second = more.each };
          ends = inr (other, more.ends);
          said = more.said;
          placed = more.placed ∙ append_assoc tags (tag_at place p.it ∷ []) (tags_at (place + part_size p.it) more.parts);
          program = one.program;
          named = one.named;
          main_class = one.main_class;
        }

    last : (p : Front Part) → Split (IsPart p.it) (λ back. back ≡ p.rest) bytes → p.it.code ≡ end_tag → ended version (here p) place s.abc s.main ≡ Ok swf → TagsSay version place tags s bytes swf
    last p w one g =
        let is : bytes ≡ w.front ++ p.rest = w.is ∙ ap (λ l. w.front ++ l) w.second in
        let closed = ended-gives version place (here p) swf s.abc s.main g in
        record {
          tag_bytes = w.front ++ [];
          behind = p.rest;
          parts = p.it ∷ [];
          symbols = [];
          is = is ∙ sym (append_assoc w.front [] p.rest);
          each = record { front = w.front; back = []; is = refl; first = w.first; second = refl };
          ends = inl (one, refl);
          said = closed.0;
          placed = closed.1.0;
          program = subst (ProgramComes s.abc swf.abc) (sym (bodies-other do_abc p.it [] (λ c. omega arith))) (program-known s.abc swf.abc closed.1.1.0);
          named = subst (AreSymbols []) (sym (bodies-other symbol_class p.it [] (λ c. omega arith))) tt;
          main_class = first_of-none s.main ∙ closed.1.1.1;
        }

    code : Inner k version swf → (p : Front Part) → Split (IsPart p.it) (λ back. back ≡ p.rest) bytes → (t : Bool) → (p.it.code == end_tag) ≡ t
        → (if t then ended version (here p) place s.abc s.main else go_on (on p) (with_body place s p.it.code p.it.body)) ≡ Ok swf → TagsSay version place tags s bytes swf
    code inner p w true f g = last p w (eqb-true p.it.code end_tag f) g
    code inner p w false f g = going inner p w (eqb-false p.it.code end_tag f) (with_body place s p.it.code p.it.body) refl g

    part : Inner k version swf → (r : Result (Front Part) Fault) → next_part place bytes ≡ r → after_part (λ at m t rest. read_tags k version at m t rest) version place tags s r ≡ Ok swf
        → TagsSay version place tags s bytes swf
    part inner (Err fault) f g = cc
    part inner (Ok p) f g = code inner p (part-gives place bytes p are f) (p.it.code == end_tag) refl g
