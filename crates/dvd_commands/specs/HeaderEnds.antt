-- Ours: what reading the header of a listed capture answers.
use Rattle.std.specs.Prelude.{◌≡◌, ◌<◌, ℕ, List, [], length, None}
use Rattle.dvd_ports.specs.Bytes.{Consumes}
use Rattle.dvd_layout.specs.declared.layout.Layout.{Layout}
use Rattle.dvd_layout.specs.declared.layout.Zones.{Zones}
use Rattle.dvd_loop.specs.Streams.{AreKnown}
use Rattle.dvd_ports.specs.Causes.{HasFailed, HasGoneOn, HasMetEnd}
use Rattle.dvd_ports.specs.Seen.{Seen}
use Rattle.dvd_commands.specs.Opening.{BreaksHeader, IsHeaderOf}
use Rattle.dvd_commands.specs.declared.opening.HeaderEnd.{HeaderEnd}
use Rattle.dvd_commands.specs.declared.opening.HeaderEnd.TheVariants as header
use Rattle.dvd_words.specs.Settings.{broken_rule}
use Rattle.dvd_words.specs.declared.settings.Settings.{Settings}

-- the counts of the source by this answer: the one read that failed, or that met the end of the input, was its last
abbrev pub HeaderCounts : HeaderEnd → Seen → Seen → Type 0
HeaderCounts (header.Found layout zones) old new = HasGoneOn old new
HeaderCounts (header.BadHeader at) old new = HasGoneOn old new
HeaderCounts (header.Short bytes) old new = HasMetEnd old new
HeaderCounts header.ReadFault old new = HasFailed old new

-- settings with this layout and these zones in place of their own
abbrev pub with_layout : Settings → Layout → Zones → Settings
with_layout settings layout zones = record settings {
  shape = layout.shape;
  zones = zones;
  sectors = layout.sectors0;
  sectors1 = layout.sectors1;
  initial = layout.initial;
  tail = layout.tail;
}

-- What is answered of the bytes read as a header, by what is left: the layout and the zones that it states, whatever
-- the other settings are, or the offset at which it breaks a rule. Or there are fewer bytes: the input ended, or a read
-- failed.
abbrev pub AnswersHeader : HeaderEnd → List ℕ → List ℕ → Type 0
AnswersHeader (header.Found layout zones) own left =
    (length own ≡ 32) × ((settings : Settings) → IsHeaderOf settings (with_layout settings layout zones) own × (broken_rule (with_layout settings layout zones) ≡ None))
AnswersHeader (header.BadHeader at) own left = (length own ≡ 32) × ((settings : Settings) → BreaksHeader settings own at)
AnswersHeader (header.Short bytes) own left = (length own < 32) × (bytes ≡ length own) × (left ≡ [])
AnswersHeader header.ReadFault own left = length own < 32

-- a source gave bytes as a header, and this is the answer
pub record ReadsHeader (end : HeaderEnd) (old new : Seen) : Type 0 where
  pub own : List ℕ
  pub left : List ℕ
  pub reads : Consumes old.bytes new.bytes own
  pub known : AreKnown new.bytes left
  pub answers : AnswersHeader end own left
