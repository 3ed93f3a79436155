-- Methods and constructors do what they mean, with every number of turns.
use Rattle.std.proofs.Common.{arith}
use Rattle.std.specs.Prelude.{suc, zero, ℕ}
use Rattle.flex_meaning.specs.Tasks.{activities}
use Rattle.program_simulation.proofs.Binding.{binding_sim}
use Rattle.program_simulation.proofs.Constructing.{constructor_sim}
use Rattle.program_simulation.proofs.Methods.{method_sim}
use Rattle.program_simulation.proofs.Starting.{bindings_start}
use Rattle.program_simulation.specs.Image.{IsImage}
use Rattle.program_simulation.specs.Laws.{ConstructorsPlay, HasPlainBindings, HasPlainClasses, HasPlainMethods, Law, MethodsPlay, Premises}
use Rattle.program_simulation.specs.Stands.{Setting}
use Rattle.avm2_program.specs.Naming.{Naming}

pub law_at : (t : Setting) {g : Naming} → IsImage g t.image → HasPlainMethods t.image.source → HasPlainClasses t.image.source → HasPlainBindings t.image.source → Premises t
    → (n : ℕ) → Law t n (λ task w. activities t.image.source n task w)
law_at t is methods classes bindings given zero =
    record {
      methods = λ m le number is_called o vs keeps fs order w ok. absurd (let l = ok.turns in omega (arith, le, l));
      constructs = λ number m le class there o vs fs order w new ok. absurd (let l = ok.turns in omega (arith, le, l));
      starts = λ m le o c name fs order w there has ok. absurd (let l = ok.turns in omega (arith, le, l));
      runs = λ m le o c k number d b ws fs order w there kind is_d is_b ok. absurd (let l = ok.turns in omega (arith, le, l));
      asks = given.asks 0;
    }
law_at t is methods classes bindings given (suc n) =
    let below = law_at t is methods classes bindings given n in
    let runs = binding_sim t is n (λ task w. activities t.image.source n task w) below bindings in
    record {
      methods = method_sim t is n (λ task w. activities t.image.source n task w) below methods;
      constructs = constructor_sim t is n (λ task w. activities t.image.source n task w) below classes (given.documents (suc n));
      starts = bindings_start t is (suc n) (λ task w. activities t.image.source (suc n) task w) runs bindings;
      runs = runs;
      asks = given.asks (suc n);
    }

pub methods_play : MethodsPlay
methods_play t g is methods classes bindings given n = (law_at t is methods classes bindings given n).methods

pub constructors_play : ConstructorsPlay
constructors_play t g is methods classes bindings given n = (law_at t is methods classes bindings given n).constructs
