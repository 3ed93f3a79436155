-- The operands of the emitted instructions fit their forms.
use Rattle.std.proofs.Common.{ℕ, suc, ◌+◌, ◌<◌, ◌≤◌, List, [], ◌∷◌, ◌++◌, length, arith}
use Rattle.std.specs.Prelude.{None, Some}
use Rattle.flex_front.specs.declared.document.Element.{Element}
use Rattle.flex_front.specs.declared.document.Element.TheVariants.{Label, Button}
use Rattle.avm2_code.specs.declared.instruction.Instruction.{Instruction}
use Rattle.avm2_code.specs.declared.instruction.Instruction.TheVariants.{ReturnVoid}
use Rattle.flexc.specs.Emitted.{each_element, class_number, script_code, constructor_code, making_code, attribute_code, place_code, element_code, building_code, handler_code}
use Rattle.flexc.proofs.Decoded.{AreEncodable}

encodable_append : (is js : List Instruction) → AreEncodable is → AreEncodable js → AreEncodable (is ++ js)
encodable_append [] js a b = b
encodable_append (i ∷ is) js a b = (a.0, encodable_append is js a.1 b)

pub script_encodable : AreEncodable script_code
script_encodable = (tt, ((omega arith, tt), ((omega arith, tt), ((omega arith, tt), (tt, tt)))))

pub return_encodable : AreEncodable (ReturnVoid ∷ [])
return_encodable = (tt, tt)

pub constructor_encodable : AreEncodable constructor_code
constructor_encodable = (tt, ((omega arith, tt), (tt, ((omega arith, (omega arith, tt)), (tt, tt)))))

-- the name of each class has a low number
pub class_number-low : (e : Element) → class_number e < 8
class_number-low (Label id text) = omega arith
class_number-low (Button id click) = omega arith

making_encodable : (k : ℕ) (e : Element) → k < 100 → AreEncodable (making_code k e)
making_encodable k e lt = let c = class_number-low e in ((omega arith, tt), ((omega arith, (omega arith, tt)), (tt, (tt, (tt, ((omega arith, tt), tt))))))

attribute_encodable : (k : ℕ) (e : Element) → k < 100 → AreEncodable (attribute_code k e)
attribute_encodable k (Label id text) lt = (tt, ((omega arith, tt), ((omega arith, tt), tt)))
attribute_encodable k (Button id None) lt = tt
attribute_encodable k (Button id (Some text)) lt = (tt, ((omega arith, tt), (tt, ((omega arith, tt), ((omega arith, (omega arith, tt)), tt)))))

place_encodable : (k : ℕ) → k < 100 → AreEncodable (place_code k)
place_encodable k lt = (tt, (tt, (tt, ((omega arith, tt), ((omega arith, (omega arith, tt)), tt)))))

element_encodable : (k : ℕ) (e : Element) → k < 100 → AreEncodable (element_code k e)
element_encodable k e lt =
    let others = encodable_append (attribute_code k e) (place_code k) (attribute_encodable k e lt) (place_encodable k lt) in
    encodable_append (making_code k e) (attribute_code k e ++ place_code k) (making_encodable k e lt) others

elements_encodable : (k : ℕ) (es : List Element) → k + length es ≤ 100 → AreEncodable (each_element element_code k es)
elements_encodable k [] le = tt
elements_encodable k (e ∷ es) le =
    encodable_append (element_code k e) (each_element element_code (suc k) es) (element_encodable k e (omega arith)) (elements_encodable (suc k) es (omega arith))

pub building_encodable : (es : List Element) → length es ≤ 100 → AreEncodable (building_code es)
building_encodable es few = encodable_append (each_element element_code 0 es) (ReturnVoid ∷ []) (elements_encodable 0 es (omega arith)) return_encodable

-- the code of a handler
pub handler_encodable : (k : ℕ) → k < 100 → AreEncodable (handler_code k)
handler_encodable k lt = ((omega arith, tt), ((omega arith, tt), ((omega arith, (omega arith, tt)), (tt, tt))))
