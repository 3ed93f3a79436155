-- What the programs of small documents mean, by computation.
use Rattle.std.proofs.Common.{refl}
use Rattle.built_programs.specs.Rows.{ButtonMeans, ClickMeans, EmptyTextMeans, GreetingMeans, LabelClickMeans, OneTurnMeans, ParentMeans, TwoTurnsMean}

pub greeting_means : GreetingMeans
greeting_means = refl

pub empty_text_means : EmptyTextMeans
empty_text_means = refl

pub one_turn_means : OneTurnMeans
one_turn_means = refl

pub button_means : ButtonMeans
button_means = refl

pub click_means : ClickMeans
click_means = refl

pub two_turns_mean : TwoTurnsMean
two_turns_mean = refl

pub label_click_means : LabelClickMeans
label_click_means = refl

pub parent_means : ParentMeans
parent_means = refl
