-- What attributes declare and say, one after another.
use Rattle.std.proofs.Common.{◌≡◌, ℕ, ◌+◌, ◌<◌, Bool, true, false, ◌&&◌, not, List, [], ◌∷◌, ◌++◌, length, take, drop, get_or, map, Option, Some, None, is_none, is_some, option_map, Bor, All, IsFalse, refl, ap, ◌∙◌, sym, subst}
use Rattle.std.specs.List.{list_all}
use Rattle.std.proofs.lemmas.List.{map_more, drop_more, get_or-map, length-map, map-append, append-nil, take-append-drop}
use Rattle.std.proofs.lemmas.List.Folds.{list_all-append}
use Rattle.std.proofs.lemmas.List.Elements.{filter-append}
use Rattle.mxml_items.specs.declared.item.Attribute as Code
use Rattle.mxml_items.specs.Items.{Written}
use Rattle.mxml_items.specs.Reading.{written}
use Rattle.mxml_tree.specs.declared.tree.Attribute.{Attribute}
use Rattle.mxml_tree.specs.Values.{IsMeant}
use Rattle.mxml_tree.specs.Namespaces.{Declared, declares, prefix_of, attribute_space, DeclaresThen, AreDeclared}
use Rattle.mxml_tree.specs.Faults.{names_of, plain}
use Rattle.mxml_tree.specs.IsTree.{IsAttributeOf, AreAttributesOf}
use Rattle.mxml_tree.specs.Opened.{are_known, declared_of, own_of}
use Rattle.mxml_tree.specs.Readable.{HasReadableValue}
use Rattle.mxml_tree.specs.declared.elements.Declaration.{Declaration}

-- what the code reads past the end of attributes
abbrev pub past_end : Code.Attribute
past_end = record { at = 0; name = record { ref_ptr = (0, 0); now = [] }; value = record { ref_ptr = (0, 0); now = [] } }

-- the attributes up to a place, and the one there
pub written_more : (attributes : List Code.Attribute) (i : ℕ) (d : Code.Attribute) → i < length attributes
    → map written (take (i + 1) attributes) ≡ map written (take i attributes) ++ written (get_or attributes i d) ∷ []
written_more attributes i d lt = map_more written attributes i d lt

-- all of them, around the one at a place
pub written_around : (attributes : List Code.Attribute) (i : ℕ) (d : Code.Attribute) → i < length attributes
    → map written attributes ≡ map written (take i attributes) ++ written (get_or attributes i d) ∷ map written (drop (i + 1) attributes)
written_around attributes i d lt =
    ap (map written) (sym (take-append-drop i attributes) ∙ ap (λ xs. take i attributes ++ xs) (drop_more attributes i d lt))
    ∙ map-append written (take i attributes) (get_or attributes i d ∷ drop (i + 1) attributes)

pub names_more : (attributes : List Code.Attribute) (i : ℕ) (d : Code.Attribute) → i < length attributes
    → names_of (map written (take (i + 1) attributes)) ≡ names_of (map written (take i attributes)) ++ (get_or attributes i d).name.now ∷ []
names_more attributes i d lt = ap names_of (written_more attributes i d lt) ∙ map-append (λ (a : Written). a.name) (map written (take i attributes)) (written (get_or attributes i d) ∷ [])

pub names_around : (attributes : List Code.Attribute) (i : ℕ) (d : Code.Attribute) → i < length attributes
    → names_of (map written attributes) ≡ names_of (map written (take i attributes)) ++ (get_or attributes i d).name.now ∷ names_of (map written (drop (i + 1) attributes))
names_around attributes i d lt =
    ap names_of (written_around attributes i d lt) ∙ map-append (λ (a : Written). a.name) (map written (take i attributes)) (written (get_or attributes i d) ∷ map written (drop (i + 1) attributes))

pub readable_at : (attributes : List Code.Attribute) (i : ℕ) (d : Code.Attribute) → i < length attributes → All HasReadableValue (map written attributes)
    → HasReadableValue (written (get_or attributes i d))
readable_at attributes i d lt all =
    subst HasReadableValue (get_or-map written attributes i d (written d) lt) (all i (written d) (rw length-map lt))

further : (o : Option (List ℕ)) (value : List ℕ) (Front Both : List Declared → Type 0) (own more : List Declared) → ((others : List Declared) → Front others → Both (others ++ more))
    → DeclaresThen o value Front own → DeclaresThen o value Both (own ++ more)
further None value Front Both own more go first = go own first
further (Some prefix) value Front Both own more go first =
    record { space = first.space; others = first.others ++ more; is_meant = first.is_meant; is = ap (λ ds. ds ++ more) first.is; go_on = go first.others first.go_on }

declared_by_both : (front back : List Written) (own more : List Declared) → AreDeclared front own → AreDeclared back more → AreDeclared (front ++ back) (own ++ more)
declared_by_both [] back own more first second = let P : List Declared → Type 0 = λ ds. AreDeclared back (ds ++ more) in subst P (sym first) second
declared_by_both (a ∷ front) back own more first second =
    further (declares a.name) a.value (AreDeclared front) (AreDeclared (front ++ back)) own more (λ others h. declared_by_both front back others more h second) first

declares_it : (o : Option (List ℕ)) (value : List ℕ) (declaration : Declaration) → Some declaration.prefix.now ≡ o → IsMeant value declaration.space
    → DeclaresThen o value (AreDeclared []) (declared_of declaration ∷ [])
declares_it o value declaration is meant =
    let P : Option (List ℕ) → Type 0 = λ p. DeclaresThen p value (AreDeclared []) (declared_of declaration ∷ []) in
    subst P is (record { space = declaration.space; others = []; is_meant = meant; is = refl; go_on = refl })

declares_nothing : (o : Option (List ℕ)) (value : List ℕ) → None ≡ o → DeclaresThen o value (AreDeclared []) []
declares_nothing o value is = let P : Option (List ℕ) → Type 0 = λ p. DeclaresThen p value (AreDeclared []) [] in subst P is refl

-- the attribute at a place declares a prefix
pub declares_next : (attributes : List Code.Attribute) (i : ℕ) (d : Code.Attribute) (own : List Declaration) (declaration : Declaration) → i < length attributes
    → AreDeclared (map written (take i attributes)) (own_of own) → Some declaration.prefix.now ≡ declares (get_or attributes i d).name.now
    → IsMeant (get_or attributes i d).value.now declaration.space → AreDeclared (map written (take (i + 1) attributes)) (own_of (own ++ declaration ∷ []))
declares_next attributes i d own declaration lt first is meant =
    let a = get_or attributes i d in
    rw (written_more attributes i d lt, map-append declared_of own (declaration ∷ []))
    (declared_by_both (map written (take i attributes)) (written a ∷ []) (own_of own) (declared_of declaration ∷ []) first (declares_it (declares a.name.now) a.value.now declaration is meant))

-- it declares none
pub declares_no_more : (attributes : List Code.Attribute) (i : ℕ) (d : Code.Attribute) (own : List Declaration) → i < length attributes
    → AreDeclared (map written (take i attributes)) (own_of own) → None ≡ declares (get_or attributes i d).name.now → AreDeclared (map written (take (i + 1) attributes)) (own_of own)
declares_no_more attributes i d own lt first is =
    let a = get_or attributes i d in
    let P : List Declared → Type 0 = λ ds. AreDeclared (map written (take i attributes) ++ written a ∷ []) ds in
    rw (written_more attributes i d lt)
    (subst P (append-nil (own_of own)) (declared_by_both (map written (take i attributes)) (written a ∷ []) (own_of own) [] first (declares_nothing (declares a.name.now) a.value.now is)))

plain_by_both : (front back : List Written) → plain (front ++ back) ≡ plain front ++ plain back
plain_by_both front back = filter-append (λ (a : Written). is_none (declares a.name)) front back

plain_itself : (a : Written) (others : List Written) → is_none (declares a.name) ≡ true → plain (a ∷ others) ≡ a ∷ plain others
plain_itself a others e = rw (e, plain)

not_plain : (a : Written) (others : List Written) → is_none (declares a.name) ≡ false → plain (a ∷ others) ≡ plain others
not_plain a others e = rw (e, plain)

-- what the code's own test says of an attribute
pub declares_by : (r : Option (Bor (List ℕ))) (o : Option (List ℕ)) (b : Bool) → is_some r ≡ not b → option_map (λ (prefix : Bor (List ℕ)). prefix.now) r ≡ o → is_none o ≡ b
declares_by None o true e is = ap is_none (sym is)
declares_by None o false e is = cc
declares_by (Some x) o true e is = cc
declares_by (Some x) o false e is = ap is_none (sym is)

one_attribute_more : (declared : List Declared) (front : List Written) (list : List Attribute) (a : Written) (attribute : Attribute) → AreAttributesOf declared front list
    → IsAttributeOf declared a attribute → AreAttributesOf declared (front ++ a ∷ []) (list ++ attribute ∷ [])
one_attribute_more declared [] [] a attribute first second = (second, tt)
one_attribute_more declared [] (x ∷ list) a attribute first second = absurd first
one_attribute_more declared (w ∷ front) [] a attribute first second = absurd first
one_attribute_more declared (w ∷ front) (x ∷ list) a attribute first second = (first.0, one_attribute_more declared front list a attribute first.1 second)

-- the attribute at a place declares nothing, and says what another of the tree does
pub is_attribute_next : (declared : List Declared) (attributes : List Code.Attribute) (i : ℕ) (d : Code.Attribute) (list : List Attribute) (attribute : Attribute) → i < length attributes
    → is_none (declares (get_or attributes i d).name.now) ≡ true → AreAttributesOf declared (plain (map written (take i attributes))) list
    → IsAttributeOf declared (written (get_or attributes i d)) attribute → AreAttributesOf declared (plain (map written (take (i + 1) attributes))) (list ++ attribute ∷ [])
is_attribute_next declared attributes i d list attribute lt is first second =
    let a = written (get_or attributes i d) in
    let front = map written (take i attributes) in
    rw (written_more attributes i d lt, plain_by_both front (a ∷ []), plain_itself a [] is)
    (one_attribute_more declared (plain front) list a attribute first second)

-- it declares a prefix
pub is_declaration_next : (declared : List Declared) (attributes : List Code.Attribute) (i : ℕ) (d : Code.Attribute) (list : List Attribute) → i < length attributes
    → is_none (declares (get_or attributes i d).name.now) ≡ false → AreAttributesOf declared (plain (map written (take i attributes))) list
    → AreAttributesOf declared (plain (map written (take (i + 1) attributes))) list
is_declaration_next declared attributes i d list lt is first =
    let a = written (get_or attributes i d) in
    let front = map written (take i attributes) in
    rw (written_more attributes i d lt, plain_by_both front (a ∷ []), not_plain a [] is, append-nil (plain front)) first

one_fails : (a b c : Bool) → b ≡ false → (a && (b && c)) ≡ false
one_fails true b c e = ap (λ x. x && c) e
one_fails false b c e = refl

-- the prefix of the one at a place isn't declared
pub is_unknown_at : (declared : List Declared) (attributes : List Code.Attribute) (i : ℕ) (d : Code.Attribute) → i < length attributes
    → is_none (declares (get_or attributes i d).name.now) ≡ true → attribute_space declared (prefix_of (get_or attributes i d).name.now) ≡ None
    → IsFalse (are_known declared (plain (map written attributes)))
is_unknown_at declared attributes i d lt is missing =
    let a = written (get_or attributes i d) in
    let front = map written (take i attributes) in
    let back = map written (drop (i + 1) attributes) in
    let test : Written → Bool = λ (w : Written). is_some (attribute_space declared (prefix_of w.name)) in
    rw (written_around attributes i d lt, plain_by_both front (a ∷ back), plain_itself a back is)
    (list_all-append test (plain front) (a ∷ plain back) ∙ one_fails (list_all test (plain front)) (test a) (list_all test (plain back)) (ap is_some missing))
