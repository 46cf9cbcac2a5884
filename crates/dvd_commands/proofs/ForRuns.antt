-- What the laws of whole runs, in dvd_top, cite of the pages of single commands and of the opening.
pub use Rattle.dvd_commands.proofs.cd_read.Kept.{kept_sectors}
pub use Rattle.dvd_commands.proofs.convert.Blocks.{sized_part}
pub use Rattle.dvd_commands.proofs.deep.Done.{deep_total}
pub use Rattle.dvd_commands.proofs.master.Blocks.{size_is}
pub use Rattle.dvd_commands.proofs.opening.HeaderTaken.{breaks_by_words, words_of}
pub use Rattle.dvd_commands.proofs.opening.Headers.{zones_for}
pub use Rattle.dvd_commands.proofs.opening.OneHeader.{breaks_once, breaks_or_states, header-size, stated_once}
pub use Rattle.dvd_commands.proofs.recover.Capture.{begins_so, block-is, each_there, size-is}
pub use Rattle.dvd_commands.proofs.recover.Done.{recover_total}
pub use Rattle.dvd_commands.proofs.recover.GoodFrames.{loops_keep_good}
