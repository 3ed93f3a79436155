-- The grammar: the ActionScript that flexc reads.
-- Above the productions of each part stands the part in short: braces mean any number, square brackets at most one.
-- A part that stands in braces, brackets or parentheses there has a name of its own here.
use Rattle.std.specs.Prelude.{ℕ, List, [], ◌∷◌, ◌++◌}
use Rattle.as3_lexer.specs.declared.keyword.Keyword.{Keyword}
use Rattle.as3_lexer.specs.declared.keyword.Keyword.TheVariants as keyword
use Rattle.as3_lexer.specs.declared.mark.Mark.{Mark}
use Rattle.as3_lexer.specs.declared.mark.Mark.TheVariants as mark
use Rattle.as3_lexer.specs.declared.token.TokenKind.TheVariants as kind
use Rattle.as3_parser.specs.Grammar.{Symbol, Token, Part, Production, produces, optional, many, opens_level, Rules, rules_of}
use Rattle.as3_parser.specs.Kinds.{kind_number}
use Rattle.as3_parser.specs.Predicts.{Dangling}

-- tokens
abbrev pub identifier : Symbol
identifier = Token (kind_number kind.Identifier)

abbrev pub number : Symbol
number = Token (kind_number kind.Number)

abbrev pub text : Symbol
text = Token (kind_number kind.Text)

abbrev pub word : Keyword → Symbol
word k = Token (kind_number (kind.Keyword k))

abbrev pub sign : Mark → Symbol
sign m = Token (kind_number (kind.Mark m))

-- the parts by their numbers
abbrev pub class_file : ℕ
class_file = 0

abbrev pub optional_path : ℕ
optional_path = 1

abbrev pub imports : ℕ
imports = 2

abbrev pub metadata_tags : ℕ
metadata_tags = 3

abbrev pub modifiers : ℕ
modifiers = 4

abbrev pub base_class : ℕ
base_class = 5

abbrev pub class_members : ℕ
class_members = 6

abbrev pub members : ℕ
members = 7

abbrev pub imports_and_members : ℕ
imports_and_members = 8

abbrev pub import_directive : ℕ
import_directive = 9

abbrev pub import_step : ℕ
import_step = 10

abbrev pub import_steps : ℕ
import_steps = 11

abbrev pub metadata_tag : ℕ
metadata_tag = 12

abbrev pub more_pairs : ℕ
more_pairs = 13

abbrev pub pairs : ℕ
pairs = 14

abbrev pub tag_arguments : ℕ
tag_arguments = 15

abbrev pub pair : ℕ
pair = 16

abbrev pub member : ℕ
member = 17

abbrev pub variables_or_method : ℕ
variables_or_method = 18

abbrev pub modifier : ℕ
modifier = 19

abbrev pub variables : ℕ
variables = 20

abbrev pub more_declarations : ℕ
more_declarations = 21

abbrev pub declaration : ℕ
declaration = 22

abbrev pub initial_value : ℕ
initial_value = 23

abbrev pub method : ℕ
method = 24

abbrev pub more_parameters : ℕ
more_parameters = 25

abbrev pub parameters : ℕ
parameters = 26

abbrev pub result_type : ℕ
result_type = 27

abbrev pub optional_result : ℕ
optional_result = 28

abbrev pub path : ℕ
path = 29

abbrev pub more_names : ℕ
more_names = 30

abbrev pub block : ℕ
block = 31

abbrev pub statements : ℕ
statements = 32

abbrev pub statement : ℕ
statement = 33

abbrev pub else_branch : ℕ
else_branch = 34

abbrev pub optional_start : ℕ
optional_start = 35

abbrev pub optional_expression : ℕ
optional_expression = 36

abbrev pub optional_simple : ℕ
optional_simple = 37

abbrev pub loop_start : ℕ
loop_start = 38

abbrev pub simple : ℕ
simple = 39

abbrev pub step_sign : ℕ
step_sign = 40

abbrev pub assignment_sign : ℕ
assignment_sign = 41

abbrev pub assignment : ℕ
assignment = 42

abbrev pub expression : ℕ
expression = 43

abbrev pub choice : ℕ
choice = 44

abbrev pub logical_or : ℕ
logical_or = 45

abbrev pub more_logical_or : ℕ
more_logical_or = 46

abbrev pub logical_and : ℕ
logical_and = 47

abbrev pub more_logical_and : ℕ
more_logical_and = 48

abbrev pub equality : ℕ
equality = 49

abbrev pub equality_sign : ℕ
equality_sign = 50

abbrev pub more_equality : ℕ
more_equality = 51

abbrev pub relational : ℕ
relational = 52

abbrev pub relational_sign : ℕ
relational_sign = 53

abbrev pub more_relational : ℕ
more_relational = 54

abbrev pub additive : ℕ
additive = 55

abbrev pub additive_sign : ℕ
additive_sign = 56

abbrev pub more_additive : ℕ
more_additive = 57

abbrev pub multiplicative : ℕ
multiplicative = 58

abbrev pub multiplicative_sign : ℕ
multiplicative_sign = 59

abbrev pub more_multiplicative : ℕ
more_multiplicative = 60

abbrev pub unary : ℕ
unary = 61

abbrev pub unary_sign : ℕ
unary_sign = 62

abbrev pub postfix : ℕ
postfix = 63

abbrev pub optional_arguments : ℕ
optional_arguments = 64

abbrev pub postfix_parts : ℕ
postfix_parts = 65

abbrev pub arguments : ℕ
arguments = 66

abbrev pub more_arguments : ℕ
more_arguments = 67

abbrev pub primary : ℕ
primary = 68

abbrev pub handler : ℕ
handler = 69

abbrev pub metadata : ℕ
metadata = 70

-- the parts of a class
abbrev pub of_classes : List Production
of_classes =
    -- class_file = "package" [path] "{" {import_directive} {metadata_tag} {modifier} "class" identifier ["extends" path] "{" {member} "}" "}"
    produces class_file (
    (word keyword.Package ∷ Part optional_path ∷ sign mark.LeftBrace ∷ Part imports ∷ Part metadata_tags ∷ Part modifiers ∷ word keyword.Class ∷ identifier ∷ Part base_class ∷ sign mark.LeftBrace ∷ Part class_members ∷ sign mark.RightBrace ∷ sign mark.RightBrace ∷ []) ∷ [])
    ∷ produces optional_path (optional ((Part path ∷ []) ∷ []))
    ∷ produces imports (many imports ((Part import_directive ∷ []) ∷ []))
    ∷ produces metadata_tags (many metadata_tags ((Part metadata_tag ∷ []) ∷ []))
    ∷ produces modifiers (many modifiers ((Part modifier ∷ []) ∷ []))
    ∷ produces base_class (optional ((word keyword.Extends ∷ Part path ∷ []) ∷ []))
    ∷ produces class_members (many class_members ((Part member ∷ []) ∷ []))
    -- members = {import_directive | member}
    ∷ produces members ((Part imports_and_members ∷ []) ∷ [])
    ∷ produces imports_and_members (many imports_and_members ((Part import_directive ∷ []) ∷ (Part member ∷ []) ∷ []))
    -- import_directive = "import" identifier {"." (identifier | "*")} ";"
    ∷ produces import_directive (
    (word keyword.Import ∷ identifier ∷ Part import_steps ∷ sign mark.Semicolon ∷ []) ∷ [])
    ∷ produces import_step ((identifier ∷ []) ∷ (sign mark.Star ∷ []) ∷ [])
    ∷ produces import_steps (many import_steps ((sign mark.Dot ∷ Part import_step ∷ []) ∷ []))
    -- metadata_tag = "[" identifier ["(" [pair {"," pair}] ")"] "]"
    ∷ produces metadata_tag (
    (sign mark.LeftBracket ∷ identifier ∷ Part tag_arguments ∷ sign mark.RightBracket ∷ []) ∷ [])
    ∷ produces more_pairs (many more_pairs ((sign mark.Comma ∷ Part pair ∷ []) ∷ []))
    ∷ produces pairs (optional ((Part pair ∷ Part more_pairs ∷ []) ∷ []))
    ∷ produces tag_arguments (optional (
    (sign mark.LeftParenthesis ∷ Part pairs ∷ sign mark.RightParenthesis ∷ []) ∷ []))
    -- pair = identifier "=" text | text
    ∷ produces pair ((identifier ∷ sign mark.Assign ∷ text ∷ []) ∷ (text ∷ []) ∷ [])
    -- member = {metadata_tag} {modifier} (variables | method)
    ∷ produces member ((Part metadata_tags ∷ Part modifiers ∷ Part variables_or_method ∷ []) ∷ [])
    ∷ produces variables_or_method ((Part variables ∷ []) ∷ (Part method ∷ []) ∷ [])
    -- modifier = "public" | "private" | "protected" | "override"
    ∷ produces modifier (
    (word keyword.Public ∷ [])
    ∷ (word keyword.Private ∷ [])
    ∷ (word keyword.Protected ∷ [])
    ∷ (word keyword.Override ∷ [])
    ∷ [])
    -- variables = "var" declaration {"," declaration} ";"
    ∷ produces variables (
    (word keyword.Var ∷ Part declaration ∷ Part more_declarations ∷ sign mark.Semicolon ∷ []) ∷ [])
    ∷ produces more_declarations (many more_declarations ((sign mark.Comma ∷ Part declaration ∷ []) ∷ []))
    -- declaration = identifier ":" path ["=" expression]
    ∷ produces declaration ((identifier ∷ sign mark.Colon ∷ Part path ∷ Part initial_value ∷ []) ∷ [])
    ∷ produces initial_value (optional ((sign mark.Assign ∷ Part expression ∷ []) ∷ []))
    -- method = "function" identifier "(" [identifier ":" path {"," identifier ":" path}] ")" [":" (path | "void")] block
    ∷ produces method (
    (word keyword.Function ∷ identifier ∷ sign mark.LeftParenthesis ∷ Part parameters ∷ sign mark.RightParenthesis ∷ Part optional_result ∷ Part block ∷ []) ∷ [])
    ∷ produces more_parameters (many more_parameters (
    (sign mark.Comma ∷ identifier ∷ sign mark.Colon ∷ Part path ∷ []) ∷ []))
    ∷ produces parameters (optional ((identifier ∷ sign mark.Colon ∷ Part path ∷ Part more_parameters ∷ []) ∷ []))
    ∷ produces result_type ((Part path ∷ []) ∷ (word keyword.Void ∷ []) ∷ [])
    ∷ produces optional_result (optional ((sign mark.Colon ∷ Part result_type ∷ []) ∷ []))
    -- path = identifier {"." identifier}
    ∷ produces path ((identifier ∷ Part more_names ∷ []) ∷ [])
    ∷ produces more_names (many more_names ((sign mark.Dot ∷ identifier ∷ []) ∷ []))
    ∷ []

-- statements
abbrev pub of_statements : List Production
of_statements =
    -- block = "{" {statement} "}"
    produces block ((sign mark.LeftBrace ∷ Part statements ∷ sign mark.RightBrace ∷ []) ∷ [])
    ∷ produces statements (many statements ((Part statement ∷ []) ∷ []))
    -- statement = block | variables | "if" "(" expression ")" statement ["else" statement] | "while" "(" expression ")" statement | "do" statement "while" "(" expression ")" ";" | "for" "(" [loop_start] ";" [expression] ";" [simple] ")" statement | "break" ";" | "continue" ";" | "return" [expression] ";" | ";" | simple ";"
    ∷ produces statement (opens_level (
    (Part block ∷ [])
    ∷ (Part variables ∷ [])
    ∷ (word keyword.If ∷ sign mark.LeftParenthesis ∷ Part expression ∷ sign mark.RightParenthesis ∷ Part statement ∷ Part else_branch ∷ [])
    ∷ (word keyword.While ∷ sign mark.LeftParenthesis ∷ Part expression ∷ sign mark.RightParenthesis ∷ Part statement ∷ [])
    ∷ (word keyword.Do ∷ Part statement ∷ word keyword.While ∷ sign mark.LeftParenthesis ∷ Part expression ∷ sign mark.RightParenthesis ∷ sign mark.Semicolon ∷ [])
    ∷ (word keyword.For ∷ sign mark.LeftParenthesis ∷ Part optional_start ∷ sign mark.Semicolon ∷ Part optional_expression ∷ sign mark.Semicolon ∷ Part optional_simple ∷ sign mark.RightParenthesis ∷ Part statement ∷ [])
    ∷ (word keyword.Break ∷ sign mark.Semicolon ∷ [])
    ∷ (word keyword.Continue ∷ sign mark.Semicolon ∷ [])
    ∷ (word keyword.Return ∷ Part optional_expression ∷ sign mark.Semicolon ∷ [])
    ∷ (sign mark.Semicolon ∷ [])
    ∷ (Part simple ∷ sign mark.Semicolon ∷ [])
    ∷ []))
    ∷ produces else_branch (optional ((word keyword.Else ∷ Part statement ∷ []) ∷ []))
    ∷ produces optional_start (optional ((Part loop_start ∷ []) ∷ []))
    ∷ produces optional_expression (optional ((Part expression ∷ []) ∷ []))
    ∷ produces optional_simple (optional ((Part simple ∷ []) ∷ []))
    -- loop_start = "var" declaration {"," declaration} | simple
    ∷ produces loop_start (
    (word keyword.Var ∷ Part declaration ∷ Part more_declarations ∷ [])
    ∷ (Part simple ∷ [])
    ∷ [])
    -- simple = ("++" | "--") postfix | expression [("=" | "+=" | "-=" | "*=") expression | "++" | "--"]
    ∷ produces simple ((Part step_sign ∷ Part postfix ∷ []) ∷ (Part expression ∷ Part assignment ∷ []) ∷ [])
    ∷ produces step_sign ((sign mark.Increment ∷ []) ∷ (sign mark.Decrement ∷ []) ∷ [])
    ∷ produces assignment_sign (
    (sign mark.Assign ∷ [])
    ∷ (sign mark.PlusAssign ∷ [])
    ∷ (sign mark.MinusAssign ∷ [])
    ∷ (sign mark.StarAssign ∷ [])
    ∷ [])
    ∷ produces assignment (optional (
    (Part assignment_sign ∷ Part expression ∷ [])
    ∷ (sign mark.Increment ∷ [])
    ∷ (sign mark.Decrement ∷ [])
    ∷ []))
    ∷ []

-- expressions
abbrev pub of_expressions : List Production
of_expressions =
    -- expression = logical_or ["?" expression ":" expression]
    produces expression (opens_level ((Part logical_or ∷ Part choice ∷ []) ∷ []))
    ∷ produces choice (optional (
    (sign mark.Question ∷ Part expression ∷ sign mark.Colon ∷ Part expression ∷ []) ∷ []))
    -- logical_or = logical_and {"||" logical_and}
    ∷ produces logical_or ((Part logical_and ∷ Part more_logical_or ∷ []) ∷ [])
    ∷ produces more_logical_or (many more_logical_or ((sign mark.Or ∷ Part logical_and ∷ []) ∷ []))
    -- logical_and = equality {"&&" equality}
    ∷ produces logical_and ((Part equality ∷ Part more_logical_and ∷ []) ∷ [])
    ∷ produces more_logical_and (many more_logical_and ((sign mark.And ∷ Part equality ∷ []) ∷ []))
    -- equality = relational {("==" | "!=" | "===" | "!==") relational}
    ∷ produces equality ((Part relational ∷ Part more_equality ∷ []) ∷ [])
    ∷ produces equality_sign (
    (sign mark.Equal ∷ [])
    ∷ (sign mark.NotEqual ∷ [])
    ∷ (sign mark.StrictEqual ∷ [])
    ∷ (sign mark.StrictNotEqual ∷ [])
    ∷ [])
    ∷ produces more_equality (many more_equality ((Part equality_sign ∷ Part relational ∷ []) ∷ []))
    -- relational = additive {("<" | "<=" | ">" | ">=") additive}
    ∷ produces relational ((Part additive ∷ Part more_relational ∷ []) ∷ [])
    ∷ produces relational_sign (
    (sign mark.Less ∷ [])
    ∷ (sign mark.LessOrEqual ∷ [])
    ∷ (sign mark.Greater ∷ [])
    ∷ (sign mark.GreaterOrEqual ∷ [])
    ∷ [])
    ∷ produces more_relational (many more_relational ((Part relational_sign ∷ Part additive ∷ []) ∷ []))
    -- additive = multiplicative {("+" | "-") multiplicative}
    ∷ produces additive ((Part multiplicative ∷ Part more_additive ∷ []) ∷ [])
    ∷ produces additive_sign ((sign mark.Plus ∷ []) ∷ (sign mark.Minus ∷ []) ∷ [])
    ∷ produces more_additive (many more_additive ((Part additive_sign ∷ Part multiplicative ∷ []) ∷ []))
    -- multiplicative = unary {("*" | "%") unary}
    ∷ produces multiplicative ((Part unary ∷ Part more_multiplicative ∷ []) ∷ [])
    ∷ produces multiplicative_sign ((sign mark.Star ∷ []) ∷ (sign mark.Percent ∷ []) ∷ [])
    ∷ produces more_multiplicative (many more_multiplicative ((Part multiplicative_sign ∷ Part unary ∷ []) ∷ []))
    -- unary = ("-" | "!") unary | postfix
    ∷ produces unary (opens_level ((Part unary_sign ∷ Part unary ∷ []) ∷ []) ++ (Part postfix ∷ []) ∷ [])
    ∷ produces unary_sign ((sign mark.Minus ∷ []) ∷ (sign mark.Not ∷ []) ∷ [])
    -- postfix = primary {"." identifier | "[" expression "]" | "(" [arguments] ")"}
    ∷ produces postfix ((Part primary ∷ Part postfix_parts ∷ []) ∷ [])
    ∷ produces optional_arguments (optional ((Part arguments ∷ []) ∷ []))
    ∷ produces postfix_parts (many postfix_parts (
    (sign mark.Dot ∷ identifier ∷ [])
    ∷ (sign mark.LeftBracket ∷ Part expression ∷ sign mark.RightBracket ∷ [])
    ∷ (sign mark.LeftParenthesis ∷ Part optional_arguments ∷ sign mark.RightParenthesis ∷ [])
    ∷ []))
    -- arguments = expression {"," expression}
    ∷ produces arguments ((Part expression ∷ Part more_arguments ∷ []) ∷ [])
    ∷ produces more_arguments (many more_arguments ((sign mark.Comma ∷ Part expression ∷ []) ∷ []))
    -- primary = identifier | number | text | "true" | "false" | "null" | "this" | "super" | "(" expression ")" | "[" [arguments] "]" | "new" path "(" [arguments] ")"
    ∷ produces primary (
    (identifier ∷ [])
    ∷ (number ∷ [])
    ∷ (text ∷ [])
    ∷ (word keyword.True ∷ [])
    ∷ (word keyword.False ∷ [])
    ∷ (word keyword.Null ∷ [])
    ∷ (word keyword.This ∷ [])
    ∷ (word keyword.Super ∷ [])
    ∷ (sign mark.LeftParenthesis ∷ Part expression ∷ sign mark.RightParenthesis ∷ [])
    ∷ (sign mark.LeftBracket ∷ Part optional_arguments ∷ sign mark.RightBracket ∷ [])
    ∷ (word keyword.New ∷ Part path ∷ sign mark.LeftParenthesis ∷ Part optional_arguments ∷ sign mark.RightParenthesis ∷ [])
    ∷ [])
    ∷ []

-- what else a text may be
abbrev pub of_whole_texts : List Production
of_whole_texts =
    -- handler = {statement}
    produces handler ((Part statements ∷ []) ∷ [])
    -- metadata = {metadata_tag}
    ∷ produces metadata ((Part metadata_tags ∷ []) ∷ [])
    ∷ []

abbrev pub grammar : List Production
grammar = of_classes ++ of_statements ++ of_expressions ++ of_whole_texts

abbrev pub the_rules : Rules
the_rules = rules_of grammar

-- an `else` belongs to the nearest `if`
abbrev pub dangling : Dangling
dangling = record { token = kind_number (kind.Keyword keyword.Else); part = else_branch; full = 0; rest = Part statement ∷ [] }
