-- The proof of `main_of` in src/main_data.rt.
use Rattle.std.proofs.Common.{◌∙◌, ap}
use Rattle.dvd_control.specs.Format.{format_bytes}
use Rattle.dvd_control.proofs.LeadIns.{control-has_lead_in, control_first, control_after, reference_bytes, zero_bytes}
use Rattle.dvd_control.proofs.main_data.main_of.Goals as goal

pub of_layout-requires : goal.of_layout-requires
of_layout-requires c = control-has_lead_in c.args.layout.now c.args.plan.now c.requires.entry c.in-Control.is

pub returns-in-Zero : goal.returns-in-Zero
returns-in-Zero c = zero_bytes c.args.layout.now c.args.plan.now c.args.f c.in-Zero.is

pub returns-in-Reference : goal.returns-in-Reference
returns-in-Reference c = reference_bytes c.args.layout.now c.args.plan.now c.args.f c.in-Reference.is

pub returns-in-Control : goal.returns-in-Control
returns-in-Control c =
    c.to_bytes.ensures ∙ ap format_bytes c.of_layout.ensures
    ∙ control_first c.args.layout.now c.args.plan.now c.args.f c.in-Control.is c.if-f-eq0.true

pub returns-in-Control-2 : goal.returns-in-Control-2
returns-in-Control-2 c = control_after c.args.layout.now c.args.plan.now c.args.f c.in-Control.is c.if-f-eq0.false
