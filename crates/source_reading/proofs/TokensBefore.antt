-- How many tokens stand before the class of a class file.
use Rattle.std.proofs.Common.{◌≡◌, ℕ, ◌+◌, ◌*◌, List, [], ◌∷◌, ◌++◌, length, refl, ap, sym, append_assoc, arith}
use Rattle.std.specs.Prelude.{Option}
use Rattle.std.specs.Global.{Vec}
use Rattle.std.specs.List.{sum_by}
use Rattle.std.proofs.lemmas.List.{length-append}
use Rattle.std.proofs.lemmas.List.Sums.{sum_by-append}
use Rattle.as3_lexer.specs.declared.token.Token.{Token}
use Rattle.as3_parser.specs.declared.tree.ClassFile.{ClassFile}
use Rattle.as3_parser.specs.declared.tree.Import.{Import}
use Rattle.as3_parser.specs.declared.tree.ImportStep.{ImportStep}
use Rattle.as3_parser.specs.declared.tree.Lexeme.{Lexeme}
use Rattle.as3_parser.specs.Classes.{AreImports, IsClassFile, IsPackage}
use Rattle.as3_parser.specs.Members.{AreImportSteps, IsImport}
use Rattle.as3_parser.specs.Trees.{IsPath}
use Rattle.as3_parser.specs.Parsed.{IsClassFileOf}
use Rattle.as3_lexer.specs.Tokens.{HasTokens}
use Rattle.source_reading.specs.ClassTexts.{ClassBegins, IsParsedIn, class_placed, import_tokens, package_tokens, tokens_before}
use Rattle.source_reading.specs.CodeTexts.{place_of_token}

module _ (source : List ℕ) where
  of_path : {names : List Lexeme} {w : List Token} → IsPath source names w → length w + 1 ≡ length names * 2
  of_path (IsPath.name t is) = refl
  of_path (IsPath.part {names} {w} dot t is_dot is path) =
      let h : length w + 1 ≡ length names * 2 = of_path path in
      simp length-append (omega arith)

  of_package : {p : Option (Vec Lexeme)} {w : List Token} → IsPackage source p w → length w + 1 ≡ package_tokens p
  of_package (IsPackage.none t is) = refl
  of_package (IsPackage.some {w} v t path is) =
      let h : length w + 1 ≡ length v.items * 2 = of_path path in
      simp length-append (omega arith)

  of_steps : {xs : List ImportStep} {w : List Token} → AreImportSteps source xs w → length w ≡ length xs * 2
  of_steps AreImportSteps.none = refl
  of_steps (AreImportSteps.more {xs} {x} {w} dot t steps is_dot is) =
      let h : length w ≡ length xs * 2 = of_steps steps in
      simp length-append (omega arith)

  of_import : {i : Import} {w : List Token} → IsImport source i w → length w ≡ import_tokens i
  of_import (IsImport.import {w} steps word first t is_word is_first are is) =
      let h : length w ≡ length steps.items * 2 = of_steps are in
      simp length-append (omega arith)

  of_imports : {xs : List Import} {w : List Token} → AreImports source xs w → length w ≡ sum_by import_tokens xs
  of_imports AreImports.none = refl
  of_imports (AreImports.more {xs} {x} {v} {w} others is) =
      let h : length v ≡ sum_by import_tokens xs = of_imports others in
      let own : length w ≡ import_tokens x = of_import is in
      simp (length-append, sum_by-append) (omega arith)

  -- where its class begins
  begins : (file : ClassFile) (tokens : List Token) → IsClassFile source file tokens → ClassBegins source tokens file.class (place_of_token source tokens (tokens_before file))
  begins file tokens (IsClassFile.file {p} {c} {u} {v} {w} imports word right is_word are_package are_imports is_class is_right) =
      let long : length u + 1 ≡ package_tokens p = of_package are_package in
      let more : length v ≡ sum_by import_tokens imports.items = of_imports are_imports in
      let both : length (u ++ v) ≡ length u + length v = length-append u v in
      let early : package_tokens p + sum_by import_tokens imports.items ≡ length (word ∷ (u ++ v)) = omega arith in
      record {
        early = word ∷ (u ++ v);
        own = w;
        closing = right;
        is = ap (λ ts. word ∷ ts) (sym (append_assoc u v (w ++ right ∷ [])));
        is_class = is_class;
        stands = ap (place_of_token source (word ∷ (u ++ (v ++ (w ++ right ∷ []))))) early;
      }

  pub parsed_in : (tokens : List Token) (file : ClassFile) → HasTokens source tokens → IsClassFileOf source tokens file → IsParsedIn source (class_placed source tokens file)
  parsed_in tokens file are is = record { tokens = tokens; are = are; tree = is; starts = refl; begins = begins file tokens is.tree }
