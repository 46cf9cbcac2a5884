-- What each iteration of the loop in `with_options` keeps.
use Rattle.std.proofs.Common.{◌≡◌, drop, map}
use Rattle.clap.specs.Words.{app_of}
use Rattle.cap_words.specs.Apps.{with_options}
use Rattle.cap_words.proofs.parser.with_options.Given as goal

abbrev pub invariant-loop-name : goal.invariant-loop-name
invariant-loop-name l =
    with_options (app_of l.parser) (map (λ name. name.now) (drop l.name-index l.names)) ≡ with_options (app_of l.initial.parser) (map (λ name. name.now) l.names)
