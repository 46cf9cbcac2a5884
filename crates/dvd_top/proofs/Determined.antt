-- What each command does for an input is determined.
use Rattle.dvd_commands.specs.Commands.{GoesOver}
use Rattle.dvd_commands.proofs.EachCommand.{facts_of}
use Rattle.dvd_top.specs.Laws.{WhatIsDoneIsDetermined}
use Rattle.dvd_top.proofs.OpenedRuns.{opens_once}

-- the law: runs over the same bytes that no fault ended do the same
pub determined : WhatIsDoneIsDetermined
determined settings bytes a b p q none other =
    opens_once GoesOver (λ settings. (facts_of settings.command).once settings) settings bytes a b none other settings.form p q
