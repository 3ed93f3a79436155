-- What a member adds.
use Rattle.std.proofs.Common.{◌≡◌, ◌∙◌, List, [], ◌∷◌, ap, refl, sym, map, ◌||◌, ◌&&◌, Vec, Global}
use Rattle.std.specs.Prelude.{Option, Bool}
use Rattle.as3_parser.specs.declared.tree.Member as m
use Rattle.as3_parser.specs.declared.tree.MemberKind.TheVariants as kind
use Rattle.as3_parser.specs.declared.tree.Lexeme.{Lexeme}
use Rattle.as3_parser.specs.declared.tree.Modifier.{Modifier}
use Rattle.as3_parser.specs.declared.tree.Modifier.TheVariants as modifier
use Rattle.as3_parser.specs.declared.tree.Parameter as p
use Rattle.as3_parser.specs.declared.tree.ResultType as r
use Rattle.as3_parser.specs.declared.tree.Statement.{Statement}
use Rattle.as3_parser.specs.declared.tree.Variable as v
use Rattle.source_sites.specs.Functions.{access_of, is_bindable, same_modifier}
use Rattle.source_sites.specs.Members.{owned_declared, owned_variable}
use Rattle.source_sites.specs.Syntax.{Member}
use Rattle.source_sites.specs.Trees.{declares_of, locals_of_body, member_of, tag_of, variable_of}
use Rattle.as3_types.specs.Types.{function_of}
use Rattle.class_table.specs.declared.scope.ClassCode.{ClassCode}
use Rattle.class_table.specs.Columns.{function_owned, member_owned, variables_owned}

module _ (code : ClassCode) where
  fused : (member : Member) (vs : List v.Variable) → variables_owned code (access_of member.modifiers) (is_bindable member.metadata || code.bindable && same_modifier (access_of member.modifiers) modifier.Public) vs
      ≡ map (owned_variable code.classes.now code.here.now code.bindable member) (map variable_of vs)
  fused member [] = refl
  fused member (v ∷ vs) = ap (λ os. owned_variable code.classes.now code.here.now code.bindable member (variable_of v) ∷ os) (fused member vs)

  -- its variables
  pub owned_variables : (member : m.Member) (vs : List v.Variable) → variables_owned code (access_of member.modifiers.items) (is_bindable (map tag_of member.metadata.items) || code.bindable && same_modifier (access_of member.modifiers.items) modifier.Public) vs
      ≡ map (owned_variable code.classes.now code.here.now code.bindable (member_of member)) (map variable_of vs)
  owned_variables member vs = fused (member_of member) vs

  module _ (member : m.Member) (access : Modifier) (given-is : access ≡ access_of member.modifiers.items) where
    pub adds_variables : (bindable : Bool) (variables : Vec v.Variable Global) (vs : List v.Variable) → bindable ≡ (is_bindable (map tag_of member.metadata.items) || code.bindable && same_modifier access modifier.Public) → vs ≡ variables.items
        → member.kind ≡ kind.Variables variables → variables_owned code access bindable vs ≡ member_owned code member
    adds_variables bindable variables vs watched are is =
        let own = access_of member.modifiers.items in
        let tags = is_bindable (map tag_of member.metadata.items) in
        ap (λ a. variables_owned code a bindable vs) given-is
        ∙ (ap (λ b. variables_owned code own b vs) (watched ∙ ap (λ a. tags || code.bindable && same_modifier a modifier.Public) given-is)
        ∙ (ap (variables_owned code own (tags || code.bindable && same_modifier own modifier.Public)) are
        ∙ (owned_variables member variables.items ∙ ap (λ k. owned_declared code.classes.now code.here.now code.bindable (member_of member) (declares_of k)) (sym is))))

    pub adds_function : (name : Lexeme) (parameters : Vec p.Parameter Global) (given : Option r.ResultType) (body : Vec Statement Global) (ps : List p.Parameter) → ps ≡ parameters.items
        → member.kind ≡ kind.Method name parameters given body → function_owned code access (function_of name ps given (locals_of_body body.items)) ≡ member_owned code member
    adds_function name parameters given body ps are is =
        let own = access_of member.modifiers.items in
        ap (λ a. function_owned code a (function_of name ps given (locals_of_body body.items))) given-is
        ∙ (ap (λ ps. function_owned code own (function_of name ps given (locals_of_body body.items))) are
        ∙ ap (λ k. owned_declared code.classes.now code.here.now code.bindable (member_of member) (declares_of k)) (sym is))
