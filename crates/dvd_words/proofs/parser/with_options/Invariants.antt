-- What each iteration of the loop in `with_options` keeps.
use Rattle.std.proofs.Common.{◌≡◌, drop, map}
use Rattle.clap.specs.Words.{app_of}
use Rattle.dvd_words.specs.Inner.Options.{with_options}
use Rattle.dvd_words.specs.Inner.Rows.{rule}
use Rattle.dvd_words.proofs.parser.with_options.Given as goal

abbrev pub invariant-loop-option : goal.invariant-loop-option
invariant-loop-option l =
    with_options (app_of l.parser) (map rule (drop l.option-index l.options)) ≡ with_options (app_of l.initial.parser) (map rule l.options)
