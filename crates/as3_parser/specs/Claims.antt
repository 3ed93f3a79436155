-- What is claimed of each part of the grammar, which a test shows to be enough: for each right side what may come next
-- where it is taken, whether the part may be empty, what it may begin with, what may follow it, and its weight.
-- What may come next is 0, the end, or one more than the number of a token's kind.
use Rattle.std.specs.Prelude.{true, false, List, [], ◌∷◌}
use Rattle.as3_parser.specs.Table.{Claim}

abbrev pub class_file : Claim
class_file = record { on = (1 ∷ []) ∷ []; null = false; first = 1 ∷ []; follow = 0 ∷ []; weight = 1 }

abbrev pub optional_path : Claim
optional_path = record { on = (4 ∷ []) ∷ (2 ∷ []) ∷ []; null = true; first = 4 ∷ []; follow = 2 ∷ []; weight = 2 }

abbrev pub imports : Claim
imports = record { on = (7 ∷ []) ∷ (3 ∷ 11 ∷ 18 ∷ 19 ∷ 20 ∷ 21 ∷ []) ∷ []; null = true; first = 7 ∷ []; follow = 3 ∷ 11 ∷ 18 ∷ 19 ∷ 20 ∷ 21 ∷ []; weight = 2 }

abbrev pub metadata_tags : Claim
metadata_tags = record { on = (11 ∷ []) ∷ (0 ∷ 3 ∷ 18 ∷ 19 ∷ 20 ∷ 21 ∷ 22 ∷ 24 ∷ []) ∷ []; null = true; first = 11 ∷ []; follow = 0 ∷ 3 ∷ 18 ∷ 19 ∷ 20 ∷ 21 ∷ 22 ∷ 24 ∷ []; weight = 2 }

abbrev pub modifiers : Claim
modifiers = record { on = (18 ∷ 19 ∷ 20 ∷ 21 ∷ []) ∷ (3 ∷ 22 ∷ 24 ∷ []) ∷ []; null = true; first = 18 ∷ 19 ∷ 20 ∷ 21 ∷ []; follow = 3 ∷ 22 ∷ 24 ∷ []; weight = 2 }

abbrev pub base_class : Claim
base_class = record { on = (5 ∷ []) ∷ (2 ∷ []) ∷ []; null = true; first = 5 ∷ []; follow = 2 ∷ []; weight = 1 }

abbrev pub class_members : Claim
class_members = record { on = (11 ∷ 18 ∷ 19 ∷ 20 ∷ 21 ∷ 22 ∷ 24 ∷ []) ∷ (6 ∷ []) ∷ []; null = true; first = 11 ∷ 18 ∷ 19 ∷ 20 ∷ 21 ∷ 22 ∷ 24 ∷ []; follow = 6 ∷ []; weight = 8 }

abbrev pub members : Claim
members = record { on = (0 ∷ 7 ∷ 11 ∷ 18 ∷ 19 ∷ 20 ∷ 21 ∷ 22 ∷ 24 ∷ []) ∷ []; null = true; first = 7 ∷ 11 ∷ 18 ∷ 19 ∷ 20 ∷ 21 ∷ 22 ∷ 24 ∷ []; follow = 0 ∷ []; weight = 9 }

abbrev pub imports_and_members : Claim
imports_and_members = record { on = (7 ∷ []) ∷ (11 ∷ 18 ∷ 19 ∷ 20 ∷ 21 ∷ 22 ∷ 24 ∷ []) ∷ (0 ∷ []) ∷ []; null = true; first = 7 ∷ 11 ∷ 18 ∷ 19 ∷ 20 ∷ 21 ∷ 22 ∷ 24 ∷ []; follow = 0 ∷ []; weight = 8 }

abbrev pub import_directive : Claim
import_directive = record { on = (7 ∷ []) ∷ []; null = false; first = 7 ∷ []; follow = 0 ∷ 3 ∷ 7 ∷ 11 ∷ 18 ∷ 19 ∷ 20 ∷ 21 ∷ 22 ∷ 24 ∷ []; weight = 1 }

abbrev pub import_step : Claim
import_step = record { on = (4 ∷ []) ∷ (9 ∷ []) ∷ []; null = false; first = 4 ∷ 9 ∷ []; follow = 8 ∷ 10 ∷ []; weight = 1 }

abbrev pub import_steps : Claim
import_steps = record { on = (8 ∷ []) ∷ (10 ∷ []) ∷ []; null = true; first = 8 ∷ []; follow = 10 ∷ []; weight = 1 }

abbrev pub metadata_tag : Claim
metadata_tag = record { on = (11 ∷ []) ∷ []; null = false; first = 11 ∷ []; follow = 0 ∷ 3 ∷ 11 ∷ 18 ∷ 19 ∷ 20 ∷ 21 ∷ 22 ∷ 24 ∷ []; weight = 1 }

abbrev pub more_pairs : Claim
more_pairs = record { on = (13 ∷ []) ∷ (14 ∷ []) ∷ []; null = true; first = 13 ∷ []; follow = 14 ∷ []; weight = 1 }

abbrev pub pairs : Claim
pairs = record { on = (4 ∷ 17 ∷ []) ∷ (14 ∷ []) ∷ []; null = true; first = 4 ∷ 17 ∷ []; follow = 14 ∷ []; weight = 2 }

abbrev pub tag_arguments : Claim
tag_arguments = record { on = (12 ∷ []) ∷ (15 ∷ []) ∷ []; null = true; first = 12 ∷ []; follow = 15 ∷ []; weight = 1 }

abbrev pub pair : Claim
pair = record { on = (4 ∷ []) ∷ (17 ∷ []) ∷ []; null = false; first = 4 ∷ 17 ∷ []; follow = 13 ∷ 14 ∷ []; weight = 1 }

abbrev pub member : Claim
member = record { on = (11 ∷ 18 ∷ 19 ∷ 20 ∷ 21 ∷ 22 ∷ 24 ∷ []) ∷ []; null = false; first = 11 ∷ 18 ∷ 19 ∷ 20 ∷ 21 ∷ 22 ∷ 24 ∷ []; follow = 0 ∷ 6 ∷ 7 ∷ 11 ∷ 18 ∷ 19 ∷ 20 ∷ 21 ∷ 22 ∷ 24 ∷ []; weight = 7 }

abbrev pub variables_or_method : Claim
variables_or_method = record { on = (22 ∷ []) ∷ (24 ∷ []) ∷ []; null = false; first = 22 ∷ 24 ∷ []; follow = 0 ∷ 6 ∷ 7 ∷ 11 ∷ 18 ∷ 19 ∷ 20 ∷ 21 ∷ 22 ∷ 24 ∷ []; weight = 2 }

abbrev pub modifier : Claim
modifier = record { on = (18 ∷ []) ∷ (19 ∷ []) ∷ (20 ∷ []) ∷ (21 ∷ []) ∷ []; null = false; first = 18 ∷ 19 ∷ 20 ∷ 21 ∷ []; follow = 3 ∷ 18 ∷ 19 ∷ 20 ∷ 21 ∷ 22 ∷ 24 ∷ []; weight = 1 }

abbrev pub variables : Claim
variables = record { on = (22 ∷ []) ∷ []; null = false; first = 22 ∷ []; follow = 0 ∷ 2 ∷ 4 ∷ 6 ∷ 7 ∷ 10 ∷ 11 ∷ 12 ∷ 17 ∷ 18 ∷ 19 ∷ 20 ∷ 21 ∷ 22 ∷ 24 ∷ 26 ∷ 27 ∷ 28 ∷ 29 ∷ 30 ∷ 31 ∷ 32 ∷ 33 ∷ 34 ∷ 35 ∷ 51 ∷ 53 ∷ 54 ∷ 55 ∷ 56 ∷ 57 ∷ 58 ∷ 59 ∷ 60 ∷ []; weight = 1 }

abbrev pub more_declarations : Claim
more_declarations = record { on = (13 ∷ []) ∷ (10 ∷ []) ∷ []; null = true; first = 13 ∷ []; follow = 10 ∷ []; weight = 1 }

abbrev pub declaration : Claim
declaration = record { on = (4 ∷ []) ∷ []; null = false; first = 4 ∷ []; follow = 10 ∷ 13 ∷ []; weight = 1 }

abbrev pub initial_value : Claim
initial_value = record { on = (16 ∷ []) ∷ (10 ∷ 13 ∷ []) ∷ []; null = true; first = 16 ∷ []; follow = 10 ∷ 13 ∷ []; weight = 1 }

abbrev pub method : Claim
method = record { on = (24 ∷ []) ∷ []; null = false; first = 24 ∷ []; follow = 0 ∷ 6 ∷ 7 ∷ 11 ∷ 18 ∷ 19 ∷ 20 ∷ 21 ∷ 22 ∷ 24 ∷ []; weight = 1 }

abbrev pub more_parameters : Claim
more_parameters = record { on = (13 ∷ []) ∷ (14 ∷ []) ∷ []; null = true; first = 13 ∷ []; follow = 14 ∷ []; weight = 1 }

abbrev pub parameters : Claim
parameters = record { on = (4 ∷ []) ∷ (14 ∷ []) ∷ []; null = true; first = 4 ∷ []; follow = 14 ∷ []; weight = 1 }

abbrev pub result_type : Claim
result_type = record { on = (4 ∷ []) ∷ (25 ∷ []) ∷ []; null = false; first = 4 ∷ 25 ∷ []; follow = 2 ∷ []; weight = 2 }

abbrev pub optional_result : Claim
optional_result = record { on = (23 ∷ []) ∷ (2 ∷ []) ∷ []; null = true; first = 23 ∷ []; follow = 2 ∷ []; weight = 1 }

abbrev pub path : Claim
path = record { on = (4 ∷ []) ∷ []; null = false; first = 4 ∷ []; follow = 2 ∷ 10 ∷ 12 ∷ 13 ∷ 14 ∷ 16 ∷ []; weight = 1 }

abbrev pub more_names : Claim
more_names = record { on = (8 ∷ []) ∷ (2 ∷ 10 ∷ 12 ∷ 13 ∷ 14 ∷ 16 ∷ []) ∷ []; null = true; first = 8 ∷ []; follow = 2 ∷ 10 ∷ 12 ∷ 13 ∷ 14 ∷ 16 ∷ []; weight = 1 }

abbrev pub block : Claim
block = record { on = (2 ∷ []) ∷ []; null = false; first = 2 ∷ []; follow = 0 ∷ 2 ∷ 4 ∷ 6 ∷ 7 ∷ 10 ∷ 11 ∷ 12 ∷ 17 ∷ 18 ∷ 19 ∷ 20 ∷ 21 ∷ 22 ∷ 24 ∷ 26 ∷ 27 ∷ 28 ∷ 29 ∷ 30 ∷ 31 ∷ 32 ∷ 33 ∷ 34 ∷ 35 ∷ 51 ∷ 53 ∷ 54 ∷ 55 ∷ 56 ∷ 57 ∷ 58 ∷ 59 ∷ 60 ∷ []; weight = 1 }

abbrev pub statements : Claim
statements = record { on = (2 ∷ 4 ∷ 10 ∷ 11 ∷ 12 ∷ 17 ∷ 22 ∷ 26 ∷ 28 ∷ 29 ∷ 30 ∷ 31 ∷ 32 ∷ 33 ∷ 34 ∷ 35 ∷ 51 ∷ 53 ∷ 54 ∷ 55 ∷ 56 ∷ 57 ∷ 58 ∷ 59 ∷ 60 ∷ []) ∷ (0 ∷ 6 ∷ []) ∷ []; null = true; first = 2 ∷ 4 ∷ 10 ∷ 11 ∷ 12 ∷ 17 ∷ 22 ∷ 26 ∷ 28 ∷ 29 ∷ 30 ∷ 31 ∷ 32 ∷ 33 ∷ 34 ∷ 35 ∷ 51 ∷ 53 ∷ 54 ∷ 55 ∷ 56 ∷ 57 ∷ 58 ∷ 59 ∷ 60 ∷ []; follow = 0 ∷ 6 ∷ []; weight = 13 }

abbrev pub statement : Claim
statement = record { on = (2 ∷ []) ∷ (22 ∷ []) ∷ (26 ∷ []) ∷ (28 ∷ []) ∷ (29 ∷ []) ∷ (30 ∷ []) ∷ (31 ∷ []) ∷ (32 ∷ []) ∷ (33 ∷ []) ∷ (10 ∷ []) ∷ (4 ∷ 11 ∷ 12 ∷ 17 ∷ 34 ∷ 35 ∷ 51 ∷ 53 ∷ 54 ∷ 55 ∷ 56 ∷ 57 ∷ 58 ∷ 59 ∷ 60 ∷ []) ∷ []; null = false; first = 2 ∷ 4 ∷ 10 ∷ 11 ∷ 12 ∷ 17 ∷ 22 ∷ 26 ∷ 28 ∷ 29 ∷ 30 ∷ 31 ∷ 32 ∷ 33 ∷ 34 ∷ 35 ∷ 51 ∷ 53 ∷ 54 ∷ 55 ∷ 56 ∷ 57 ∷ 58 ∷ 59 ∷ 60 ∷ []; follow = 0 ∷ 2 ∷ 4 ∷ 6 ∷ 10 ∷ 11 ∷ 12 ∷ 17 ∷ 22 ∷ 26 ∷ 27 ∷ 28 ∷ 29 ∷ 30 ∷ 31 ∷ 32 ∷ 33 ∷ 34 ∷ 35 ∷ 51 ∷ 53 ∷ 54 ∷ 55 ∷ 56 ∷ 57 ∷ 58 ∷ 59 ∷ 60 ∷ []; weight = 12 }

abbrev pub else_branch : Claim
else_branch = record { on = (27 ∷ []) ∷ (0 ∷ 2 ∷ 4 ∷ 6 ∷ 10 ∷ 11 ∷ 12 ∷ 17 ∷ 22 ∷ 26 ∷ 28 ∷ 29 ∷ 30 ∷ 31 ∷ 32 ∷ 33 ∷ 34 ∷ 35 ∷ 51 ∷ 53 ∷ 54 ∷ 55 ∷ 56 ∷ 57 ∷ 58 ∷ 59 ∷ 60 ∷ []) ∷ []; null = true; first = 27 ∷ []; follow = 0 ∷ 2 ∷ 4 ∷ 6 ∷ 10 ∷ 11 ∷ 12 ∷ 17 ∷ 22 ∷ 26 ∷ 27 ∷ 28 ∷ 29 ∷ 30 ∷ 31 ∷ 32 ∷ 33 ∷ 34 ∷ 35 ∷ 51 ∷ 53 ∷ 54 ∷ 55 ∷ 56 ∷ 57 ∷ 58 ∷ 59 ∷ 60 ∷ []; weight = 1 }

abbrev pub optional_start : Claim
optional_start = record { on = (4 ∷ 11 ∷ 12 ∷ 17 ∷ 22 ∷ 34 ∷ 35 ∷ 51 ∷ 53 ∷ 54 ∷ 55 ∷ 56 ∷ 57 ∷ 58 ∷ 59 ∷ 60 ∷ []) ∷ (10 ∷ []) ∷ []; null = true; first = 4 ∷ 11 ∷ 12 ∷ 17 ∷ 22 ∷ 34 ∷ 35 ∷ 51 ∷ 53 ∷ 54 ∷ 55 ∷ 56 ∷ 57 ∷ 58 ∷ 59 ∷ 60 ∷ []; follow = 10 ∷ []; weight = 13 }

abbrev pub optional_expression : Claim
optional_expression = record { on = (4 ∷ 11 ∷ 12 ∷ 17 ∷ 51 ∷ 53 ∷ 54 ∷ 55 ∷ 56 ∷ 57 ∷ 58 ∷ 59 ∷ 60 ∷ []) ∷ (10 ∷ []) ∷ []; null = true; first = 4 ∷ 11 ∷ 12 ∷ 17 ∷ 51 ∷ 53 ∷ 54 ∷ 55 ∷ 56 ∷ 57 ∷ 58 ∷ 59 ∷ 60 ∷ []; follow = 10 ∷ []; weight = 11 }

abbrev pub optional_simple : Claim
optional_simple = record { on = (4 ∷ 11 ∷ 12 ∷ 17 ∷ 34 ∷ 35 ∷ 51 ∷ 53 ∷ 54 ∷ 55 ∷ 56 ∷ 57 ∷ 58 ∷ 59 ∷ 60 ∷ []) ∷ (14 ∷ []) ∷ []; null = true; first = 4 ∷ 11 ∷ 12 ∷ 17 ∷ 34 ∷ 35 ∷ 51 ∷ 53 ∷ 54 ∷ 55 ∷ 56 ∷ 57 ∷ 58 ∷ 59 ∷ 60 ∷ []; follow = 14 ∷ []; weight = 12 }

abbrev pub loop_start : Claim
loop_start = record { on = (22 ∷ []) ∷ (4 ∷ 11 ∷ 12 ∷ 17 ∷ 34 ∷ 35 ∷ 51 ∷ 53 ∷ 54 ∷ 55 ∷ 56 ∷ 57 ∷ 58 ∷ 59 ∷ 60 ∷ []) ∷ []; null = false; first = 4 ∷ 11 ∷ 12 ∷ 17 ∷ 22 ∷ 34 ∷ 35 ∷ 51 ∷ 53 ∷ 54 ∷ 55 ∷ 56 ∷ 57 ∷ 58 ∷ 59 ∷ 60 ∷ []; follow = 10 ∷ []; weight = 12 }

abbrev pub simple : Claim
simple = record { on = (34 ∷ 35 ∷ []) ∷ (4 ∷ 11 ∷ 12 ∷ 17 ∷ 51 ∷ 53 ∷ 54 ∷ 55 ∷ 56 ∷ 57 ∷ 58 ∷ 59 ∷ 60 ∷ []) ∷ []; null = false; first = 4 ∷ 11 ∷ 12 ∷ 17 ∷ 34 ∷ 35 ∷ 51 ∷ 53 ∷ 54 ∷ 55 ∷ 56 ∷ 57 ∷ 58 ∷ 59 ∷ 60 ∷ []; follow = 10 ∷ 14 ∷ []; weight = 11 }

abbrev pub step_sign : Claim
step_sign = record { on = (34 ∷ []) ∷ (35 ∷ []) ∷ []; null = false; first = 34 ∷ 35 ∷ []; follow = 4 ∷ 11 ∷ 12 ∷ 17 ∷ 54 ∷ 55 ∷ 56 ∷ 57 ∷ 58 ∷ 59 ∷ 60 ∷ []; weight = 1 }

abbrev pub assignment_sign : Claim
assignment_sign = record { on = (16 ∷ []) ∷ (36 ∷ []) ∷ (37 ∷ []) ∷ (38 ∷ []) ∷ []; null = false; first = 16 ∷ 36 ∷ 37 ∷ 38 ∷ []; follow = 4 ∷ 11 ∷ 12 ∷ 17 ∷ 51 ∷ 53 ∷ 54 ∷ 55 ∷ 56 ∷ 57 ∷ 58 ∷ 59 ∷ 60 ∷ []; weight = 1 }

abbrev pub assignment : Claim
assignment = record { on = (16 ∷ 36 ∷ 37 ∷ 38 ∷ []) ∷ (34 ∷ []) ∷ (35 ∷ []) ∷ (10 ∷ 14 ∷ []) ∷ []; null = true; first = 16 ∷ 34 ∷ 35 ∷ 36 ∷ 37 ∷ 38 ∷ []; follow = 10 ∷ 14 ∷ []; weight = 2 }

abbrev pub expression : Claim
expression = record { on = (4 ∷ 11 ∷ 12 ∷ 17 ∷ 51 ∷ 53 ∷ 54 ∷ 55 ∷ 56 ∷ 57 ∷ 58 ∷ 59 ∷ 60 ∷ []) ∷ []; null = false; first = 4 ∷ 11 ∷ 12 ∷ 17 ∷ 51 ∷ 53 ∷ 54 ∷ 55 ∷ 56 ∷ 57 ∷ 58 ∷ 59 ∷ 60 ∷ []; follow = 0 ∷ 10 ∷ 13 ∷ 14 ∷ 15 ∷ 16 ∷ 23 ∷ 34 ∷ 35 ∷ 36 ∷ 37 ∷ 38 ∷ []; weight = 10 }

abbrev pub choice : Claim
choice = record { on = (39 ∷ []) ∷ (0 ∷ 10 ∷ 13 ∷ 14 ∷ 15 ∷ 16 ∷ 23 ∷ 34 ∷ 35 ∷ 36 ∷ 37 ∷ 38 ∷ []) ∷ []; null = true; first = 39 ∷ []; follow = 0 ∷ 10 ∷ 13 ∷ 14 ∷ 15 ∷ 16 ∷ 23 ∷ 34 ∷ 35 ∷ 36 ∷ 37 ∷ 38 ∷ []; weight = 1 }

abbrev pub logical_or : Claim
logical_or = record { on = (4 ∷ 11 ∷ 12 ∷ 17 ∷ 51 ∷ 53 ∷ 54 ∷ 55 ∷ 56 ∷ 57 ∷ 58 ∷ 59 ∷ 60 ∷ []) ∷ []; null = false; first = 4 ∷ 11 ∷ 12 ∷ 17 ∷ 51 ∷ 53 ∷ 54 ∷ 55 ∷ 56 ∷ 57 ∷ 58 ∷ 59 ∷ 60 ∷ []; follow = 0 ∷ 10 ∷ 13 ∷ 14 ∷ 15 ∷ 16 ∷ 23 ∷ 34 ∷ 35 ∷ 36 ∷ 37 ∷ 38 ∷ 39 ∷ []; weight = 9 }

abbrev pub more_logical_or : Claim
more_logical_or = record { on = (40 ∷ []) ∷ (0 ∷ 10 ∷ 13 ∷ 14 ∷ 15 ∷ 16 ∷ 23 ∷ 34 ∷ 35 ∷ 36 ∷ 37 ∷ 38 ∷ 39 ∷ []) ∷ []; null = true; first = 40 ∷ []; follow = 0 ∷ 10 ∷ 13 ∷ 14 ∷ 15 ∷ 16 ∷ 23 ∷ 34 ∷ 35 ∷ 36 ∷ 37 ∷ 38 ∷ 39 ∷ []; weight = 1 }

abbrev pub logical_and : Claim
logical_and = record { on = (4 ∷ 11 ∷ 12 ∷ 17 ∷ 51 ∷ 53 ∷ 54 ∷ 55 ∷ 56 ∷ 57 ∷ 58 ∷ 59 ∷ 60 ∷ []) ∷ []; null = false; first = 4 ∷ 11 ∷ 12 ∷ 17 ∷ 51 ∷ 53 ∷ 54 ∷ 55 ∷ 56 ∷ 57 ∷ 58 ∷ 59 ∷ 60 ∷ []; follow = 0 ∷ 10 ∷ 13 ∷ 14 ∷ 15 ∷ 16 ∷ 23 ∷ 34 ∷ 35 ∷ 36 ∷ 37 ∷ 38 ∷ 39 ∷ 40 ∷ []; weight = 8 }

abbrev pub more_logical_and : Claim
more_logical_and = record { on = (41 ∷ []) ∷ (0 ∷ 10 ∷ 13 ∷ 14 ∷ 15 ∷ 16 ∷ 23 ∷ 34 ∷ 35 ∷ 36 ∷ 37 ∷ 38 ∷ 39 ∷ 40 ∷ []) ∷ []; null = true; first = 41 ∷ []; follow = 0 ∷ 10 ∷ 13 ∷ 14 ∷ 15 ∷ 16 ∷ 23 ∷ 34 ∷ 35 ∷ 36 ∷ 37 ∷ 38 ∷ 39 ∷ 40 ∷ []; weight = 1 }

abbrev pub equality : Claim
equality = record { on = (4 ∷ 11 ∷ 12 ∷ 17 ∷ 51 ∷ 53 ∷ 54 ∷ 55 ∷ 56 ∷ 57 ∷ 58 ∷ 59 ∷ 60 ∷ []) ∷ []; null = false; first = 4 ∷ 11 ∷ 12 ∷ 17 ∷ 51 ∷ 53 ∷ 54 ∷ 55 ∷ 56 ∷ 57 ∷ 58 ∷ 59 ∷ 60 ∷ []; follow = 0 ∷ 10 ∷ 13 ∷ 14 ∷ 15 ∷ 16 ∷ 23 ∷ 34 ∷ 35 ∷ 36 ∷ 37 ∷ 38 ∷ 39 ∷ 40 ∷ 41 ∷ []; weight = 7 }

abbrev pub equality_sign : Claim
equality_sign = record { on = (42 ∷ []) ∷ (43 ∷ []) ∷ (44 ∷ []) ∷ (45 ∷ []) ∷ []; null = false; first = 42 ∷ 43 ∷ 44 ∷ 45 ∷ []; follow = 4 ∷ 11 ∷ 12 ∷ 17 ∷ 51 ∷ 53 ∷ 54 ∷ 55 ∷ 56 ∷ 57 ∷ 58 ∷ 59 ∷ 60 ∷ []; weight = 1 }

abbrev pub more_equality : Claim
more_equality = record { on = (42 ∷ 43 ∷ 44 ∷ 45 ∷ []) ∷ (0 ∷ 10 ∷ 13 ∷ 14 ∷ 15 ∷ 16 ∷ 23 ∷ 34 ∷ 35 ∷ 36 ∷ 37 ∷ 38 ∷ 39 ∷ 40 ∷ 41 ∷ []) ∷ []; null = true; first = 42 ∷ 43 ∷ 44 ∷ 45 ∷ []; follow = 0 ∷ 10 ∷ 13 ∷ 14 ∷ 15 ∷ 16 ∷ 23 ∷ 34 ∷ 35 ∷ 36 ∷ 37 ∷ 38 ∷ 39 ∷ 40 ∷ 41 ∷ []; weight = 2 }

abbrev pub relational : Claim
relational = record { on = (4 ∷ 11 ∷ 12 ∷ 17 ∷ 51 ∷ 53 ∷ 54 ∷ 55 ∷ 56 ∷ 57 ∷ 58 ∷ 59 ∷ 60 ∷ []) ∷ []; null = false; first = 4 ∷ 11 ∷ 12 ∷ 17 ∷ 51 ∷ 53 ∷ 54 ∷ 55 ∷ 56 ∷ 57 ∷ 58 ∷ 59 ∷ 60 ∷ []; follow = 0 ∷ 10 ∷ 13 ∷ 14 ∷ 15 ∷ 16 ∷ 23 ∷ 34 ∷ 35 ∷ 36 ∷ 37 ∷ 38 ∷ 39 ∷ 40 ∷ 41 ∷ 42 ∷ 43 ∷ 44 ∷ 45 ∷ []; weight = 6 }

abbrev pub relational_sign : Claim
relational_sign = record { on = (46 ∷ []) ∷ (47 ∷ []) ∷ (48 ∷ []) ∷ (49 ∷ []) ∷ []; null = false; first = 46 ∷ 47 ∷ 48 ∷ 49 ∷ []; follow = 4 ∷ 11 ∷ 12 ∷ 17 ∷ 51 ∷ 53 ∷ 54 ∷ 55 ∷ 56 ∷ 57 ∷ 58 ∷ 59 ∷ 60 ∷ []; weight = 1 }

abbrev pub more_relational : Claim
more_relational = record { on = (46 ∷ 47 ∷ 48 ∷ 49 ∷ []) ∷ (0 ∷ 10 ∷ 13 ∷ 14 ∷ 15 ∷ 16 ∷ 23 ∷ 34 ∷ 35 ∷ 36 ∷ 37 ∷ 38 ∷ 39 ∷ 40 ∷ 41 ∷ 42 ∷ 43 ∷ 44 ∷ 45 ∷ []) ∷ []; null = true; first = 46 ∷ 47 ∷ 48 ∷ 49 ∷ []; follow = 0 ∷ 10 ∷ 13 ∷ 14 ∷ 15 ∷ 16 ∷ 23 ∷ 34 ∷ 35 ∷ 36 ∷ 37 ∷ 38 ∷ 39 ∷ 40 ∷ 41 ∷ 42 ∷ 43 ∷ 44 ∷ 45 ∷ []; weight = 2 }

abbrev pub additive : Claim
additive = record { on = (4 ∷ 11 ∷ 12 ∷ 17 ∷ 51 ∷ 53 ∷ 54 ∷ 55 ∷ 56 ∷ 57 ∷ 58 ∷ 59 ∷ 60 ∷ []) ∷ []; null = false; first = 4 ∷ 11 ∷ 12 ∷ 17 ∷ 51 ∷ 53 ∷ 54 ∷ 55 ∷ 56 ∷ 57 ∷ 58 ∷ 59 ∷ 60 ∷ []; follow = 0 ∷ 10 ∷ 13 ∷ 14 ∷ 15 ∷ 16 ∷ 23 ∷ 34 ∷ 35 ∷ 36 ∷ 37 ∷ 38 ∷ 39 ∷ 40 ∷ 41 ∷ 42 ∷ 43 ∷ 44 ∷ 45 ∷ 46 ∷ 47 ∷ 48 ∷ 49 ∷ []; weight = 5 }

abbrev pub additive_sign : Claim
additive_sign = record { on = (50 ∷ []) ∷ (51 ∷ []) ∷ []; null = false; first = 50 ∷ 51 ∷ []; follow = 4 ∷ 11 ∷ 12 ∷ 17 ∷ 51 ∷ 53 ∷ 54 ∷ 55 ∷ 56 ∷ 57 ∷ 58 ∷ 59 ∷ 60 ∷ []; weight = 1 }

abbrev pub more_additive : Claim
more_additive = record { on = (50 ∷ 51 ∷ []) ∷ (0 ∷ 10 ∷ 13 ∷ 14 ∷ 15 ∷ 16 ∷ 23 ∷ 34 ∷ 35 ∷ 36 ∷ 37 ∷ 38 ∷ 39 ∷ 40 ∷ 41 ∷ 42 ∷ 43 ∷ 44 ∷ 45 ∷ 46 ∷ 47 ∷ 48 ∷ 49 ∷ []) ∷ []; null = true; first = 50 ∷ 51 ∷ []; follow = 0 ∷ 10 ∷ 13 ∷ 14 ∷ 15 ∷ 16 ∷ 23 ∷ 34 ∷ 35 ∷ 36 ∷ 37 ∷ 38 ∷ 39 ∷ 40 ∷ 41 ∷ 42 ∷ 43 ∷ 44 ∷ 45 ∷ 46 ∷ 47 ∷ 48 ∷ 49 ∷ []; weight = 2 }

abbrev pub multiplicative : Claim
multiplicative = record { on = (4 ∷ 11 ∷ 12 ∷ 17 ∷ 51 ∷ 53 ∷ 54 ∷ 55 ∷ 56 ∷ 57 ∷ 58 ∷ 59 ∷ 60 ∷ []) ∷ []; null = false; first = 4 ∷ 11 ∷ 12 ∷ 17 ∷ 51 ∷ 53 ∷ 54 ∷ 55 ∷ 56 ∷ 57 ∷ 58 ∷ 59 ∷ 60 ∷ []; follow = 0 ∷ 10 ∷ 13 ∷ 14 ∷ 15 ∷ 16 ∷ 23 ∷ 34 ∷ 35 ∷ 36 ∷ 37 ∷ 38 ∷ 39 ∷ 40 ∷ 41 ∷ 42 ∷ 43 ∷ 44 ∷ 45 ∷ 46 ∷ 47 ∷ 48 ∷ 49 ∷ 50 ∷ 51 ∷ []; weight = 4 }

abbrev pub multiplicative_sign : Claim
multiplicative_sign = record { on = (9 ∷ []) ∷ (52 ∷ []) ∷ []; null = false; first = 9 ∷ 52 ∷ []; follow = 4 ∷ 11 ∷ 12 ∷ 17 ∷ 51 ∷ 53 ∷ 54 ∷ 55 ∷ 56 ∷ 57 ∷ 58 ∷ 59 ∷ 60 ∷ []; weight = 1 }

abbrev pub more_multiplicative : Claim
more_multiplicative = record { on = (9 ∷ 52 ∷ []) ∷ (0 ∷ 10 ∷ 13 ∷ 14 ∷ 15 ∷ 16 ∷ 23 ∷ 34 ∷ 35 ∷ 36 ∷ 37 ∷ 38 ∷ 39 ∷ 40 ∷ 41 ∷ 42 ∷ 43 ∷ 44 ∷ 45 ∷ 46 ∷ 47 ∷ 48 ∷ 49 ∷ 50 ∷ 51 ∷ []) ∷ []; null = true; first = 9 ∷ 52 ∷ []; follow = 0 ∷ 10 ∷ 13 ∷ 14 ∷ 15 ∷ 16 ∷ 23 ∷ 34 ∷ 35 ∷ 36 ∷ 37 ∷ 38 ∷ 39 ∷ 40 ∷ 41 ∷ 42 ∷ 43 ∷ 44 ∷ 45 ∷ 46 ∷ 47 ∷ 48 ∷ 49 ∷ 50 ∷ 51 ∷ []; weight = 2 }

abbrev pub unary : Claim
unary = record { on = (51 ∷ 53 ∷ []) ∷ (4 ∷ 11 ∷ 12 ∷ 17 ∷ 54 ∷ 55 ∷ 56 ∷ 57 ∷ 58 ∷ 59 ∷ 60 ∷ []) ∷ []; null = false; first = 4 ∷ 11 ∷ 12 ∷ 17 ∷ 51 ∷ 53 ∷ 54 ∷ 55 ∷ 56 ∷ 57 ∷ 58 ∷ 59 ∷ 60 ∷ []; follow = 0 ∷ 9 ∷ 10 ∷ 13 ∷ 14 ∷ 15 ∷ 16 ∷ 23 ∷ 34 ∷ 35 ∷ 36 ∷ 37 ∷ 38 ∷ 39 ∷ 40 ∷ 41 ∷ 42 ∷ 43 ∷ 44 ∷ 45 ∷ 46 ∷ 47 ∷ 48 ∷ 49 ∷ 50 ∷ 51 ∷ 52 ∷ []; weight = 3 }

abbrev pub unary_sign : Claim
unary_sign = record { on = (51 ∷ []) ∷ (53 ∷ []) ∷ []; null = false; first = 51 ∷ 53 ∷ []; follow = 4 ∷ 11 ∷ 12 ∷ 17 ∷ 51 ∷ 53 ∷ 54 ∷ 55 ∷ 56 ∷ 57 ∷ 58 ∷ 59 ∷ 60 ∷ []; weight = 1 }

abbrev pub postfix : Claim
postfix = record { on = (4 ∷ 11 ∷ 12 ∷ 17 ∷ 54 ∷ 55 ∷ 56 ∷ 57 ∷ 58 ∷ 59 ∷ 60 ∷ []) ∷ []; null = false; first = 4 ∷ 11 ∷ 12 ∷ 17 ∷ 54 ∷ 55 ∷ 56 ∷ 57 ∷ 58 ∷ 59 ∷ 60 ∷ []; follow = 0 ∷ 9 ∷ 10 ∷ 13 ∷ 14 ∷ 15 ∷ 16 ∷ 23 ∷ 34 ∷ 35 ∷ 36 ∷ 37 ∷ 38 ∷ 39 ∷ 40 ∷ 41 ∷ 42 ∷ 43 ∷ 44 ∷ 45 ∷ 46 ∷ 47 ∷ 48 ∷ 49 ∷ 50 ∷ 51 ∷ 52 ∷ []; weight = 2 }

abbrev pub optional_arguments : Claim
optional_arguments = record { on = (4 ∷ 11 ∷ 12 ∷ 17 ∷ 51 ∷ 53 ∷ 54 ∷ 55 ∷ 56 ∷ 57 ∷ 58 ∷ 59 ∷ 60 ∷ []) ∷ (14 ∷ 15 ∷ []) ∷ []; null = true; first = 4 ∷ 11 ∷ 12 ∷ 17 ∷ 51 ∷ 53 ∷ 54 ∷ 55 ∷ 56 ∷ 57 ∷ 58 ∷ 59 ∷ 60 ∷ []; follow = 14 ∷ 15 ∷ []; weight = 12 }

abbrev pub postfix_parts : Claim
postfix_parts = record { on = (8 ∷ []) ∷ (11 ∷ []) ∷ (12 ∷ []) ∷ (0 ∷ 9 ∷ 10 ∷ 13 ∷ 14 ∷ 15 ∷ 16 ∷ 23 ∷ 34 ∷ 35 ∷ 36 ∷ 37 ∷ 38 ∷ 39 ∷ 40 ∷ 41 ∷ 42 ∷ 43 ∷ 44 ∷ 45 ∷ 46 ∷ 47 ∷ 48 ∷ 49 ∷ 50 ∷ 51 ∷ 52 ∷ []) ∷ []; null = true; first = 8 ∷ 11 ∷ 12 ∷ []; follow = 0 ∷ 9 ∷ 10 ∷ 13 ∷ 14 ∷ 15 ∷ 16 ∷ 23 ∷ 34 ∷ 35 ∷ 36 ∷ 37 ∷ 38 ∷ 39 ∷ 40 ∷ 41 ∷ 42 ∷ 43 ∷ 44 ∷ 45 ∷ 46 ∷ 47 ∷ 48 ∷ 49 ∷ 50 ∷ 51 ∷ 52 ∷ []; weight = 1 }

abbrev pub arguments : Claim
arguments = record { on = (4 ∷ 11 ∷ 12 ∷ 17 ∷ 51 ∷ 53 ∷ 54 ∷ 55 ∷ 56 ∷ 57 ∷ 58 ∷ 59 ∷ 60 ∷ []) ∷ []; null = false; first = 4 ∷ 11 ∷ 12 ∷ 17 ∷ 51 ∷ 53 ∷ 54 ∷ 55 ∷ 56 ∷ 57 ∷ 58 ∷ 59 ∷ 60 ∷ []; follow = 14 ∷ 15 ∷ []; weight = 11 }

abbrev pub more_arguments : Claim
more_arguments = record { on = (13 ∷ []) ∷ (14 ∷ 15 ∷ []) ∷ []; null = true; first = 13 ∷ []; follow = 14 ∷ 15 ∷ []; weight = 1 }

abbrev pub primary : Claim
primary = record { on = (4 ∷ []) ∷ (54 ∷ []) ∷ (17 ∷ []) ∷ (55 ∷ []) ∷ (56 ∷ []) ∷ (57 ∷ []) ∷ (58 ∷ []) ∷ (59 ∷ []) ∷ (12 ∷ []) ∷ (11 ∷ []) ∷ (60 ∷ []) ∷ []; null = false; first = 4 ∷ 11 ∷ 12 ∷ 17 ∷ 54 ∷ 55 ∷ 56 ∷ 57 ∷ 58 ∷ 59 ∷ 60 ∷ []; follow = 0 ∷ 8 ∷ 9 ∷ 10 ∷ 11 ∷ 12 ∷ 13 ∷ 14 ∷ 15 ∷ 16 ∷ 23 ∷ 34 ∷ 35 ∷ 36 ∷ 37 ∷ 38 ∷ 39 ∷ 40 ∷ 41 ∷ 42 ∷ 43 ∷ 44 ∷ 45 ∷ 46 ∷ 47 ∷ 48 ∷ 49 ∷ 50 ∷ 51 ∷ 52 ∷ []; weight = 1 }

abbrev pub handler : Claim
handler = record { on = (0 ∷ 2 ∷ 4 ∷ 10 ∷ 11 ∷ 12 ∷ 17 ∷ 22 ∷ 26 ∷ 28 ∷ 29 ∷ 30 ∷ 31 ∷ 32 ∷ 33 ∷ 34 ∷ 35 ∷ 51 ∷ 53 ∷ 54 ∷ 55 ∷ 56 ∷ 57 ∷ 58 ∷ 59 ∷ 60 ∷ []) ∷ []; null = true; first = 2 ∷ 4 ∷ 10 ∷ 11 ∷ 12 ∷ 17 ∷ 22 ∷ 26 ∷ 28 ∷ 29 ∷ 30 ∷ 31 ∷ 32 ∷ 33 ∷ 34 ∷ 35 ∷ 51 ∷ 53 ∷ 54 ∷ 55 ∷ 56 ∷ 57 ∷ 58 ∷ 59 ∷ 60 ∷ []; follow = 0 ∷ []; weight = 14 }

abbrev pub metadata : Claim
metadata = record { on = (0 ∷ 11 ∷ []) ∷ []; null = true; first = 11 ∷ []; follow = 0 ∷ []; weight = 3 }

abbrev pub claims : List Claim
claims =
    class_file
    ∷ optional_path
    ∷ imports
    ∷ metadata_tags
    ∷ modifiers
    ∷ base_class
    ∷ class_members
    ∷ members
    ∷ imports_and_members
    ∷ import_directive
    ∷ import_step
    ∷ import_steps
    ∷ metadata_tag
    ∷ more_pairs
    ∷ pairs
    ∷ tag_arguments
    ∷ pair
    ∷ member
    ∷ variables_or_method
    ∷ modifier
    ∷ variables
    ∷ more_declarations
    ∷ declaration
    ∷ initial_value
    ∷ method
    ∷ more_parameters
    ∷ parameters
    ∷ result_type
    ∷ optional_result
    ∷ path
    ∷ more_names
    ∷ block
    ∷ statements
    ∷ statement
    ∷ else_branch
    ∷ optional_start
    ∷ optional_expression
    ∷ optional_simple
    ∷ loop_start
    ∷ simple
    ∷ step_sign
    ∷ assignment_sign
    ∷ assignment
    ∷ expression
    ∷ choice
    ∷ logical_or
    ∷ more_logical_or
    ∷ logical_and
    ∷ more_logical_and
    ∷ equality
    ∷ equality_sign
    ∷ more_equality
    ∷ relational
    ∷ relational_sign
    ∷ more_relational
    ∷ additive
    ∷ additive_sign
    ∷ more_additive
    ∷ multiplicative
    ∷ multiplicative_sign
    ∷ more_multiplicative
    ∷ unary
    ∷ unary_sign
    ∷ postfix
    ∷ optional_arguments
    ∷ postfix_parts
    ∷ arguments
    ∷ more_arguments
    ∷ primary
    ∷ handler
    ∷ metadata
    ∷ []
