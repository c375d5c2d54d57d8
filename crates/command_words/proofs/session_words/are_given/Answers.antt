use Rattle.std.proofs.Common.{rules, ◌≡◌, ◌∙◌, sym, string_bytes}
use Rattle.std.specs.List.{list_all}
use Rattle.std.proofs.lemmas.Iterator.{YieldsList-from_slice}
use Rattle.std.proofs.lemmas.Iterator.Search.{all_from_yields_List}
use borrow.Author.Tests.{tests}
use Rattle.command_words.specs.SessionWords.{is_given}
use Rattle.std.proofs.lemmas.List.Folds.{list_all-map}
use Rattle.command_words.proofs.session_words.are_given.Goals as goal

pub returns : goal.returns
returns c =
    let each : c.all.result ≡ list_all (λ w. is_given (string_bytes w)) c.args.words.now =
    all_from_yields_List (λ w. is_given (string_bytes w)) _ _ c.all.result c.all.ensures.ran (YieldsList-from_slice c.args.words.now cc) (λ x b q k. search (rules, tests)) in
    each ∙ sym (list_all-map is_given string_bytes c.args.words.now)
