-- The handlers of a document, and what the machine finds of them in its ABC.
use Rattle.std.proofs.Common.{◌≡◌, ℕ, zero, suc, ◌+◌, ◌<◌, List, [], ◌∷◌, ◌++◌, length, None, Some, true, false, refl, sym, ap, ◌∙◌, subst, arith, append_assoc, length-append}
use Rattle.std.specs.Prelude.{slice_get, if◌then◌else◌, ◌==◌, codes}
use Rattle.std.specs.Str.{bytes_eq}
use Rattle.std.proofs.lemmas.Slice.Eq.{bytes_eq-Decides}
use Rattle.std.proofs.lemmas.Bool.Decides.{nat_tests}
use Rattle.std.proofs.lemmas.Option.{get_or_from_slice_get}
use Rattle.abc_format.specs.declared.records.Abc.{Abc}
use Rattle.abc_format.specs.declared.records.TraitKind.TheVariants as trait_kind
use Rattle.flex_front.specs.declared.document.Element.{Element}
use Rattle.flex_front.specs.declared.document.Element.TheVariants as element
use Rattle.flex_front.specs.Source.{id_of, AreNewIds}
use Rattle.avm2_machine.specs.Names.{Name}
use Rattle.flex_base.specs.Lists.{one_later}
use Rattle.avm2_machine.specs.Tables.{body_in, body_of, named, method_by, method_named, hears_clicks, takes_clicks}
use Rattle.avm2_code.specs.declared.instruction.Instruction.TheVariants.{ReturnVoid}
use Rattle.abc_format.specs.declared.records.MethodBody.{MethodBody}
use Rattle.flexc.specs.Emitted.{encode_all, script_code, constructor_code, building_code, body, each_handler, handler_text, handler_number, handler_method, handler_trait, handler_body, instance_traits}
use Rattle.flexc.specs.Meaning.{next_handler}
use Rattle.flexc.specs.World.{Listener}
use Rattle.flexc.proofs.Looked.{slice_get_seam, abc, class_methods, handler_named}
use Rattle.flexc.proofs.States.{one}

pub bytes_eq-refl : (text : List ℕ) → bytes_eq text text ≡ true
bytes_eq-refl text = (bytes_eq-Decides text text).1 refl

-- an item that stands in front
slice_get_front : {A : Type 0} (front back : List A) (n : ℕ) → n < length front → slice_get (front ++ back) n ≡ slice_get front n
slice_get_front [] back n lt = absurd (omega arith)
slice_get_front (x ∷ front) back zero lt = refl
slice_get_front (x ∷ front) back (suc n) lt = slice_get_front front back n (omega arith)

-- the id of an element is none of those before it
pub new_at : (before es : List Element) (k : ℕ) (x : Element) → AreNewIds before es → slice_get es k ≡ Some x → (j : ℕ) (y : Element) → slice_get (before ++ es) j ≡ Some y
    → j < length before + k → bytes_eq (id_of y) (id_of x) ≡ false
new_at before [] k x new at j y there lt = absurd (cc)
new_at before (e ∷ es) zero x new at j y there lt =
    let same : e ≡ x = cc in
    let within : j < length before = omega (arith, lt) in
    let there_before : slice_get before j ≡ Some y = sym (slice_get_front before (e ∷ es) j within) ∙ there in
    subst (λ z. bytes_eq (id_of y) (id_of z) ≡ false) same (subst (λ z. bytes_eq (id_of z) (id_of e) ≡ false) (get_or_from_slice_get before j y y there_before) (new.0 j y within))
new_at before (e ∷ es) (suc k) x new at j y there lt =
    new_at (before ++ e ∷ []) es k x new.1 at j y (ap (λ l. slice_get l j) (append_assoc before (e ∷ []) es) ∙ there) (omega (arith, lt, length-append before (e ∷ [])))

-- how many handlers elements have
abbrev pub handlers : List Element → ℕ
handlers [] = 0
handlers (element.Button id (Some text) ∷ es) = suc (handlers es)
handlers (e ∷ es) = handlers es

next_suc : (e : Element) (n : ℕ) → next_handler e (suc n) ≡ suc (next_handler e n)
next_suc (element.Label id text) n = refl
next_suc (element.Button id None) n = refl
next_suc (element.Button id (Some text)) n = refl

-- an element more
pub handlers-more : (before : List Element) (e : Element) → handlers (before ++ e ∷ []) ≡ next_handler e (handlers before)
handlers-more [] (element.Label id text) = refl
handlers-more [] (element.Button id None) = refl
handlers-more [] (element.Button id (Some text)) = refl
handlers-more (element.Label id text ∷ before) e = handlers-more before e
handlers-more (element.Button id None ∷ before) e = handlers-more before e
handlers-more (element.Button id (Some text) ∷ before) e = ap suc (handlers-more before e) ∙ sym (next_suc e (handlers before))

-- the methods of handlers stand behind four others
pub behind_four : (h : ℕ) → handler_number h ≡ suc (suc (suc (suc h)))
behind_four h = omega arith

-- what stands for the handler of an element behind others
pub handler_at : {A : Type 0} (f : ℕ → ℕ → A) (g j : ℕ) (before behind : List Element) (id text : List ℕ)
    → slice_get (each_handler f g j (before ++ element.Button id (Some text) ∷ behind)) (handlers before) ≡ Some (f (g + handlers before) (j + length before))
handler_at f g j [] behind id text = let e : g ≡ g + 0 = omega arith in let d : j ≡ j + 0 = omega arith in ap (λ h. Some (f h j)) e ∙ ap (λ k. Some (f (g + 0) k)) d
handler_at f g j (element.Label i t ∷ before) behind id text =
    let d : suc j + length before ≡ j + suc (length before) = omega arith in handler_at f g (suc j) before behind id text ∙ ap (λ k. Some (f (g + handlers before) k)) d
handler_at f g j (element.Button i None ∷ before) behind id text =
    let d : suc j + length before ≡ j + suc (length before) = omega arith in handler_at f g (suc j) before behind id text ∙ ap (λ k. Some (f (g + handlers before) k)) d
handler_at f g j (element.Button i (Some t) ∷ before) behind id text =
    let e : suc g + handlers before ≡ g + suc (handlers before) = omega arith in
    let d : suc j + length before ≡ j + suc (length before) = omega arith in
    handler_at f (suc g) (suc j) before behind id text ∙ ap (λ h. Some (f h (suc j + length before))) e ∙ ap (λ k. Some (f (g + suc (handlers before)) k)) d

-- numbers that differ
other_number : (g n : ℕ) → (handler_number g == handler_number (g + suc n)) ≡ false
other_number g n = grind (arith, nat_tests)

same_number : (g : ℕ) → (handler_number g == handler_number (g + 0)) ≡ true
same_number g = grind (arith, nat_tests)

passes : (m : ℕ) (b : MethodBody) (bs : List MethodBody) → (b.method == m) ≡ false → body_in m (b ∷ bs) ≡ one_later (body_in m bs)
passes m b bs e = ap (λ t. if t then Some 0 else one_later (body_in m bs)) e

-- its body is found by its number
body_at : (g j : ℕ) (before behind : List Element) (id text : List ℕ)
    → body_in (handler_number (g + handlers before)) (each_handler handler_body g j (before ++ element.Button id (Some text) ∷ behind)) ≡ Some (handlers before)
body_at g j [] behind id text = ap (λ t. if t then Some 0 else one_later (body_in (handler_number (g + 0)) (each_handler handler_body (suc g) (suc j) behind))) (same_number g)
body_at g j (element.Label i t ∷ before) behind id text = body_at g (suc j) before behind id text
body_at g j (element.Button i None ∷ before) behind id text = body_at g (suc j) before behind id text
body_at g j (element.Button i (Some t) ∷ before) behind id text =
    let e : g + suc (handlers before) ≡ suc g + handlers before = omega arith in
    let rest = each_handler handler_body (suc g) (suc j) (before ++ element.Button id (Some text) ∷ behind) in
    ap (λ b. if b then Some 0 else one_later (body_in (handler_number (g + suc (handlers before))) rest)) (other_number g (handlers before))
    ∙ ap (λ n. one_later (body_in (handler_number n) rest)) e ∙ ap one_later (body_at (suc g) (suc j) before behind id text)

-- a listener that is the handler of an element
pub record IsHandler (es : List Element) (l : Listener) : Type 0 where
  pub before : List Element
  pub behind : List Element
  pub id : List ℕ
  pub all : es ≡ before ++ element.Button id (Some l.traces) ∷ behind
  pub number : l.number ≡ handlers before
  pub document : l.document ≡ one

module _ (es : List Element) where
  abbrev p : Abc
  p = abc es

  abbrev pub handler_called : List ℕ → Name
  handler_called id = record { space = codes "flexc"; local = handler_text id }

  module _ (before behind : List Element) (id text : List ℕ) (all : es ≡ before ++ element.Button id (Some text) ∷ behind) where
    -- its parameter and its body
    pub handler_body_of : body_of p (handler_number (handlers before)) ≡ Some (handler_number (handlers before))
    handler_body_of =
        let m = handler_number (handlers before) in
        let e : 0 + handlers before ≡ handlers before = omega arith in
        let late : List MethodBody = each_handler handler_body 0 0 es in
        let third : List MethodBody = body 3 4 2 (encode_all (building_code es)) ∷ late in
        let second : List MethodBody = body 2 1 1 (encode_all constructor_code) ∷ third in
        let first : List MethodBody = body 1 0 1 (encode_all (ReturnVoid ∷ [])) ∷ second in
        let found : body_in m late ≡ Some (handlers before) =
        ap (λ l. body_in m (each_handler handler_body 0 0 l)) all ∙ ap (λ n. body_in (handler_number n) (each_handler handler_body 0 0 (before ++ element.Button id (Some text) ∷ behind))) (sym e)
        ∙ body_at 0 0 before behind id text in
        passes m (body 0 2 1 (encode_all script_code)) first (grind (arith, nat_tests))
        ∙ ap one_later
        (passes m (body 1 0 1 (encode_all (ReturnVoid ∷ []))) second (grind (arith, nat_tests))
        ∙ ap one_later
        (passes m (body 2 1 1 (encode_all constructor_code)) third (grind (arith, nat_tests))
        ∙ ap one_later (passes m (body 3 4 2 (encode_all (building_code es))) late (grind (arith, nat_tests)) ∙ ap one_later found)))
        ∙ ap Some (sym (behind_four (handlers before)))

    pub handler_body_is : slice_get p.method_bodies (handler_number (handlers before)) ≡ Some (handler_body (handlers before) (length before))
    handler_body_is =
        let e : 0 + handlers before ≡ handlers before = omega arith in
        let d : 0 + length before ≡ length before = omega arith in
        ap (slice_get p.method_bodies) (behind_four (handlers before)) ∙ ap (λ l. slice_get (each_handler handler_body 0 0 l) (handlers before)) all
        ∙ handler_at handler_body 0 0 before behind id text ∙ ap (λ h. Some (handler_body h (0 + length before))) e ∙ ap (λ k. Some (handler_body (handlers before) k)) d

    pub handler_hears : hears_clicks p (handler_number (handlers before)) ≡ true
    handler_hears =
        ap (λ n. takes_clicks p (slice_get p.methods n)) (behind_four (handlers before))
        ∙ ap (takes_clicks p) (ap (λ l. slice_get (each_handler (λ h k. handler_method) 0 0 l) (handlers before)) all ∙ handler_at (λ h k. handler_method) 0 0 before behind id text)

  -- an element stands where so many stand before it
  pub stands_at : (before behind : List Element) (x : Element) (k : ℕ) → es ≡ before ++ x ∷ behind → k ≡ length before → slice_get es k ≡ Some x
  stands_at before behind x k all at = ap (λ l. slice_get l k) all ∙ ap (slice_get (before ++ x ∷ behind)) at ∙ slice_get_seam before x behind

  pub stands_within : (before behind : List Element) (x : Element) (k : ℕ) → es ≡ before ++ x ∷ behind → k ≡ length before → k < length es
  stands_within before behind x k all at = omega (arith, at, ap length all, length-append before (x ∷ behind))

  moved_on_by : (done : List Element) (x : Element) (rest : List Element) → es ≡ done ++ (x ∷ rest) → es ≡ (done ++ x ∷ []) ++ rest
  moved_on_by done x rest all = all ∙ sym (append_assoc done (x ∷ []) rest)

  module _ (distinct : AreNewIds [] es) where
    -- the method of a handler is found by its name, behind those of earlier handlers
    found_from : (done front behind : List Element) (id text : List ℕ) (g j : ℕ) → es ≡ done ++ (front ++ element.Button id (Some text) ∷ behind) → j ≡ length done
        → method_named p (each_handler handler_trait g j (front ++ element.Button id (Some text) ∷ behind)) (handler_called id) ≡ Some (handler_number (g + handlers front))
    found_from done [] behind id text g j all at =
        let x : Element = element.Button id (Some text) in
        let e : g ≡ g + 0 = omega arith in
        let rest = method_named p (each_handler handler_trait (suc g) (suc j) behind) (handler_called id) in
        let named_so = handler_named es j x (stands_at done behind x j all at) (stands_within done behind x j all at) in
        ap (λ n. method_by (named n (handler_called id)) (trait_kind.Method 0 (handler_number g)) rest) named_so
        ∙ ap (λ t. method_by t (trait_kind.Method 0 (handler_number g)) rest) (bytes_eq-refl id) ∙ ap (λ h. Some (handler_number h)) e
    found_from done (element.Label i t ∷ front) behind id text g j all at =
        let x : Element = element.Label i t in
        found_from (done ++ x ∷ []) front behind id text g (suc j) (moved_on_by done x (front ++ element.Button id (Some text) ∷ behind) all) (omega (arith, at, length-append done (x ∷ [])))
    found_from done (element.Button i None ∷ front) behind id text g j all at =
        let x : Element = element.Button i None in
        found_from (done ++ x ∷ []) front behind id text g (suc j) (moved_on_by done x (front ++ element.Button id (Some text) ∷ behind) all) (omega (arith, at, length-append done (x ∷ [])))
    found_from done (element.Button i (Some t) ∷ front) behind id text g j all at =
        let x : Element = element.Button i (Some t) in
        let y : Element = element.Button id (Some text) in
        let e : suc g + handlers front ≡ g + suc (handlers front) = omega arith in
        let whole : es ≡ (done ++ x ∷ front) ++ y ∷ behind = all ∙ sym (append_assoc done (x ∷ front) (y ∷ behind)) in
        let k = length (done ++ x ∷ front) in
        let at_y : slice_get es k ≡ Some y = stands_at (done ++ x ∷ front) behind y k whole refl in
        let at_x : slice_get es j ≡ Some x = stands_at done (front ++ y ∷ behind) x j all at in
        let other : bytes_eq i id ≡ false = new_at [] es k y distinct at_y j x at_x (omega (arith, at, length-append done (x ∷ front))) in
        let rest = method_named p (each_handler handler_trait (suc g) (suc j) (front ++ y ∷ behind)) (handler_called id) in
        let named_so = handler_named es j x at_x (stands_within done (front ++ y ∷ behind) x j all at) in
        ap (λ n. method_by (named n (handler_called id)) (trait_kind.Method 0 (handler_number g)) rest) named_so
        ∙ ap (λ b. method_by b (trait_kind.Method 0 (handler_number g)) rest) other
        ∙ found_from (done ++ x ∷ []) front behind id text (suc g) (suc j) (moved_on_by done x (front ++ y ∷ behind) all) (omega (arith, at, length-append done (x ∷ [])))
        ∙ ap (λ h. Some (handler_number h)) e

    pub handler_found : (before behind : List Element) (id text : List ℕ) → es ≡ before ++ element.Button id (Some text) ∷ behind
        → method_named p (instance_traits es) (handler_called id) ≡ Some (handler_number (handlers before))
    handler_found before behind id text all =
        let e : 0 + handlers before ≡ handlers before = omega arith in
        class_methods es (handler_called id) ∙ ap (λ l. method_named p (each_handler handler_trait 0 0 l) (handler_called id)) all
        ∙ found_from [] before behind id text 0 0 all refl ∙ ap (λ h. Some (handler_number h)) e
