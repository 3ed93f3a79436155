use Rattle.flexc.proofs.CommandWords.{words_cases}
use Rattle.flexc.proofs.words.read_words.Goals as goal

pub returns-in-None : goal.returns-in-None
returns-in-None c = words_cases _ c.read_with_turns.result c.in-None.ensures c.read_with_turns.ensures
