-- The proof of `layout_of` in src/opening.rt.
use Rattle.std.proofs.Common.{◌∙◌, ap, rules}
use Rattle.dvd_capture.specs.Laws.{FitsHeader}
use Rattle.dvd_commands.specs.Opening.{shape_number}
use Rattle.dvd_commands.proofs.opening.Headers.{broken_by, valid_by, stated_by, zones_for}
use Rattle.dvd_commands.proofs.opening.OneHeader.{length-header}
use Rattle.dvd_commands.proofs.opening.layout_of.Goals as goal

pub returns-in-Ok : goal.returns-in-Ok
returns-in-Ok c = λ left.
    let header = c.args.header.now in
    let numbers : FitsHeader header = search rules in
    let is = c.in-Ok.ensures in
    let layout = c.in-Ok.layout in
    let zones = c.zones_of.result in (
      length-header header,
      λ settings. (
        stated_by header numbers zones c.zones_of.ensures layout (ap shape_number is.shape ∙ c.shape_of.ensures) is.sectors0 is.sectors1 is.initial is.tail settings,
        valid_by layout zones c.shape_of.result header.sectors0 header.sectors1 header.initial header.tail is.shape is.sectors0 is.sectors1 is.initial is.tail is.valid settings,
      ),
    )

pub returns-in-Err : goal.returns-in-Err
returns-in-Err c = λ left.
    let header = c.args.header.now in
    let numbers : FitsHeader header = search rules in
    let some = zones_for header.zones header.known_zones in (
      length-header header,
      broken_by header numbers some.0 some.1 c.shape_of.result c.in-Err.fault c.shape_of.ensures c.in-Err.ensures.refused c.fault_byte.result c.fault_byte.ensures,
    )
