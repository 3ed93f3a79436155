use Rattle.as3_lexer.proofs.Laws.{is_readable, is_read_one_way, has_one_list, has_one_bad_token}
use Rattle.as3_lexer.proofs.reading.laws_of_tokens.Goals as goal

pub returns-clause-readable : goal.returns-clause-readable
returns-clause-readable c = is_readable

pub returns-clause-one_way : goal.returns-clause-one_way
returns-clause-one_way c = is_read_one_way

pub returns-clause-one_list : goal.returns-clause-one_list
returns-clause-one_list c = has_one_list

pub returns-clause-one_bad_token : goal.returns-clause-one_bad_token
returns-clause-one_bad_token c = has_one_bad_token
