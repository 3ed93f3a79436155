-- Lists of files by the place of the first file with a name.
use Rattle.std.proofs.Common.{◌≡◌, ◌≢◌, ℕ, zero, suc, ◌<◌, ◌≤◌, List, [], ◌∷◌, ◌++◌, length, true, false, None, Some, option_map, get_or, set, refl, arith, sym, ◌∙◌, ap}
use Rattle.std.specs.List.{position, position_or_len}
use Rattle.std.specs.Str.{bytes_eq}
use Rattle.std.proofs.lemmas.Grind.{common_steps}
use Rattle.std.proofs.lemmas.List.Quantifiers.{position-Some}
use Rattle.std.proofs.lemmas.List.Sums.{fails_before_first}
use Rattle.std.proofs.lemmas.Bool.{false_from_ne_true}
use Rattle.std.proofs.lemmas.Slice.Eq.{bytes_eq-Decides}
use Rattle.flex_edge.specs.Memory.{NamedFiles, bytes_of, files_after_change, files_after_create}

-- no file has the name
pub record NoneNamed (files : NamedFiles) (name : List ℕ) : Type 0 where
  pub other : (k : ℕ) → k < length files → bytes_eq (get_or files k ([], [])).0 name ≡ false

-- the file at this place is the first with the name
pub record IsFirstNamed (files : NamedFiles) (name : List ℕ) (place : ℕ) : Type 0 where
  pub within : place < length files
  pub named : bytes_eq (get_or files place ([], [])).0 name ≡ true
  pub first : (k : ℕ) → k < place → bytes_eq (get_or files k ([], [])).0 name ≡ false

pub none_at : (files : NamedFiles) (name : List ℕ) → position (λ file. bytes_eq file.0 name) files ≡ None → NoneNamed files name
none_at files name e =
    let far : length files ≤ position_or_len (λ (file : List ℕ × List ℕ). bytes_eq file.0 name) files = grind (arith, common_steps) in
    record { other = λ k lt. fails_before_first (λ file. bytes_eq file.0 name) files k ([], []) (omega arith) }

pub first_at : (files : NamedFiles) (name : List ℕ) (place : ℕ) → position (λ file. bytes_eq file.0 name) files ≡ Some place → IsFirstNamed files name place
first_at files name place e =
    let facts = position-Some (λ file. bytes_eq file.0 name) files place ([], []) e in
    record { within = facts.0; named = facts.1; first = facts.2 }

pub bytes_of-none : (files : NamedFiles) (name : List ℕ) → NoneNamed files name → bytes_of files name ≡ None
bytes_of-none [] name none = refl
bytes_of-none (file ∷ files) name none =
    rw (none.other 0 (omega arith)) (bytes_of-none files name (record { other = λ k lt. none.other (suc k) (omega arith) }))

pub files_after_change-none : (change : List ℕ → List ℕ) (files : NamedFiles) (name : List ℕ) → NoneNamed files name → files_after_change change files name ≡ files
files_after_change-none change [] name none = refl
files_after_change-none change (file ∷ files) name none =
    rw (none.other 0 (omega arith)) (ap (λ rest. file ∷ rest) (files_after_change-none change files name (record { other = λ k lt. none.other (suc k) (omega arith) })))

pub files_after_create-none : (files : NamedFiles) (name : List ℕ) → NoneNamed files name → files_after_create files name ≡ files ++ (name, []) ∷ []
files_after_create-none [] name none = refl
files_after_create-none (file ∷ files) name none =
    rw (none.other 0 (omega arith)) (ap (λ rest. file ∷ rest) (files_after_create-none files name (record { other = λ k lt. none.other (suc k) (omega arith) })))

pub bytes_of-first : (files : NamedFiles) (name : List ℕ) (place : ℕ) (default : List ℕ × List ℕ) → IsFirstNamed files name place → bytes_of files name ≡ Some (get_or files place default).1
bytes_of-first [] name place default is = absurd (omega (arith, is.within))
bytes_of-first (file ∷ files) name zero default is = rw is.named refl
bytes_of-first (file ∷ files) name (suc place) default is =
    rw (is.first 0 (omega arith))
    (bytes_of-first files name place default (record { within = omega (arith, is.within); named = is.named; first = λ k lt. is.first (suc k) (omega arith) }))

pub files_after_change-first : (change : List ℕ → List ℕ) (files : NamedFiles) (name : List ℕ) (place : ℕ) (default : List ℕ × List ℕ) → IsFirstNamed files name place →
    files_after_change change files name ≡ set files place ((get_or files place default).0, change (get_or files place default).1)
files_after_change-first change [] name place default is = absurd (omega (arith, is.within))
files_after_change-first change (file ∷ files) name zero default is = rw is.named refl
files_after_change-first change (file ∷ files) name (suc place) default is =
    rw (is.first 0 (omega arith))
    (ap (λ rest. file ∷ rest) (files_after_change-first change files name place default (record { within = omega (arith, is.within); named = is.named; first = λ k lt. is.first (suc k) (omega arith) })))

pub files_after_create-first : (files : NamedFiles) (name : List ℕ) (place : ℕ) (default : List ℕ × List ℕ) → IsFirstNamed files name place →
    files_after_create files name ≡ set files place ((get_or files place default).0, [])
files_after_create-first [] name place default is = absurd (omega (arith, is.within))
files_after_create-first (file ∷ files) name zero default is = rw is.named refl
files_after_create-first (file ∷ files) name (suc place) default is =
    rw (is.first 0 (omega arith))
    (ap (λ rest. file ∷ rest) (files_after_create-first files name place default (record { within = omega (arith, is.within); named = is.named; first = λ k lt. is.first (suc k) (omega arith) })))

-- what has one name has no other
same_name : (x name other : List ℕ) → bytes_eq x name ≡ true → other ≢ name → bytes_eq x other ≡ false
same_name x name other same differs =
    false_from_ne_true _ (λ also. differs (sym ((bytes_eq-Decides x other).0 also) ∙ (bytes_eq-Decides x name).0 same))

pub bytes_of-files_after_change : (change : List ℕ → List ℕ) (files : NamedFiles) (name : List ℕ) → bytes_of (files_after_change change files name) name ≡ option_map change (bytes_of files name)
bytes_of-files_after_change change [] name = refl
bytes_of-files_after_change change (file ∷ files) name = grind (arith, common_steps, bytes_of-files_after_change change files name)

pub bytes_of-files_after_change-other : (change : List ℕ → List ℕ) (files : NamedFiles) (name other : List ℕ) → other ≢ name → bytes_of (files_after_change change files name) other ≡ bytes_of files other
bytes_of-files_after_change-other change [] name other differs = refl
bytes_of-files_after_change-other change (file ∷ files) name other differs =
    grind (arith, common_steps, bytes_of-files_after_change-other change files name other differs, same_name file.0 name other)

pub bytes_of-files_after_create : (files : NamedFiles) (name : List ℕ) → bytes_of (files_after_create files name) name ≡ Some []
bytes_of-files_after_create [] name = rw ((bytes_eq-Decides name name).1 refl) refl
bytes_of-files_after_create (file ∷ files) name = grind (arith, common_steps, bytes_of-files_after_create files name)

pub bytes_of-files_after_create-other : (files : NamedFiles) (name other : List ℕ) → other ≢ name → bytes_of (files_after_create files name) other ≡ bytes_of files other
bytes_of-files_after_create-other [] name other differs = rw (same_name name name other ((bytes_eq-Decides name name).1 refl) differs) refl
bytes_of-files_after_create-other (file ∷ files) name other differs =
    grind (arith, common_steps, bytes_of-files_after_create-other files name other differs, same_name file.0 name other)
