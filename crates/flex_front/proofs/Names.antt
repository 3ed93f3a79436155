-- What a name is.
use Rattle.std.proofs.Common.{◌≡◌, ℕ, ◌<◌, ◌≤◌, List, length, get_or, Bool, true, false, refl}
use Rattle.std.specs.Prelude.{◌&&◌, not, nat_lt, nat_le}
use Rattle.std.specs.List.{list_all}
use Rattle.std.proofs.lemmas.Bool.{leb-true}
use Rattle.std.proofs.lemmas.List.Sums.{AllPass-from_list_all}
use Rattle.flex_front.specs.Source.{IsId, is_letter, is_short, is_among, keywords}

both_left : (a b : Bool) → a && b ≡ true → a ≡ true
both_left true b e = refl
both_left false b e = absurd (cc)

both_right : (a b : Bool) → a && b ≡ true → b ≡ true
both_right true b e = e
both_right false b e = absurd (cc)

pub record IsLetter (byte : ℕ) : Type 0 where
  pub from : 97 ≤ byte
  pub to : byte ≤ 122

-- an id isn't long, and each of its bytes is a letter
pub id_few : (id : List ℕ) → IsId id → length id ≤ 32
id_few id fine = leb-true (length id) 32 (both_right (nat_lt 0 (length id)) (nat_le (length id) 32) (both_left (is_short id) (list_all is_letter id && not (is_among keywords id)) fine.name))

letter : (byte : ℕ) → is_letter byte ≡ true → IsLetter byte
letter byte e = record { from = leb-true 97 byte (both_left (nat_le 97 byte) (nat_le byte 122) e); to = leb-true byte 122 (both_right (nat_le 97 byte) (nat_le byte 122) e) }

pub id_letters : (id : List ℕ) → IsId id → (k d : ℕ) → k < length id → IsLetter (get_or id k d)
id_letters id fine k d lt =
    let letters : list_all is_letter id ≡ true = both_left (list_all is_letter id) (not (is_among keywords id)) (both_right (is_short id) (list_all is_letter id && not (is_among keywords id)) fine.name) in
    letter (get_or id k d) (AllPass-from_list_all is_letter id letters k d lt)
