-- The proof of `run` in src/top.rt.
use Rattle.std.proofs.Common.{◌≡◌, ◌≢◌, true, false, inr, Some, map, string_bytes, refl, ap, sym, subst, ◌∙◌}
use Rattle.dvd_capture.specs.declared.form.Form.TheVariants.{Listed}
use Rattle.dvd_loop.specs.Streams.{streams}
use Rattle.dvd_words.specs.Reading.{IsValid, reading, takes_listed}
use Rattle.dvd_words.specs.declared.table.Command.{Command}
use Rattle.dvd_words.specs.declared.table.Command.TheVariants.{CdRead, Master}
use Rattle.dvd_words.specs.declared.settings.Settings.{Settings}
use Rattle.dvd_commands.specs.Commands.{breaks, meaning}
use Rattle.dvd_top.specs.Headline.{HaveFailed, IsRun, Reports}
use Rattle.dvd_top.specs.Headline.Call.{IsRunOf, IsSetting}
use Rattle.dvd_commands.specs.Performed.{IsRefusal}
use Rattle.dvd_report.specs.Setting.{setting_line}
use Rattle.dvd_top.specs.Lines.{closing_line}
use Rattle.dvd_top.specs.Promises.{GivesImage, Masters, Recovers}
use Rattle.dvd_top.specs.declared.status.Status.TheVariants as status
use Rattle.dvd_top.proofs.PromisesKept.{no_run_failed, no_setting, run_gives, run_masters, run_recovers}
use Rattle.dvd_top.proofs.RunLemmas.{has_failed, has_run, same_settings}
use Rattle.dvd_top.proofs.top.run.Goals as goal

-- a command that takes no listed capture reads none
not_listed : (settings : Settings) (command : Command) → IsValid settings → takes_listed command ≡ false → settings.command ≡ command → settings.form ≢ Listed
not_listed settings command valid takes is listed =
    let no : false ≡ true = sym takes ∙ ap takes_listed (sym is) ∙ valid.listed listed in cc

pub returns-in-Ok-perform : goal.returns-in-Ok-perform
returns-in-Ok-perform g c =
    let old = streams (g.S.Source.seen c.args.src.now) (g.K.Sink.seen c.args.out.now) (g.E.Sink.seen c.args.report.now) in
    let source = g.S.Source.seen c.perform.new.src in
    let output = g.K.Sink.seen c.perform.new.out in
    let mid = g.E.Sink.seen c.perform.new.report in
    let last = g.E.Sink.seen c.close.new.report in
    let read = c.in-Ok.settings in
    let result = c.into.result in
    let line : closing_line read.command c.in-Ok-perform.end ≡ c.as_slice.result.now = sym (c.as_slice.ensures.bytes ∙ c.closing_line.ensures) in
    let performed = c.in-Ok-perform.ensures.performed in
    let closes = c.close.ensures.closes (closing_line read.command) source output line in
    let run : IsRun read old (streams source output last) result =
    has_run read old source output mid last c.in-Ok-perform.end c.close.result performed closes (λ is. ap (λ r. g.E.Sink.seen r) (c.close.ensures.none is)) c.close.ensures.cause (not_listed read CdRead c.in-Ok.ensures.valid refl) c.close.ensures.same result c.into.ensures in
    let failed = has_failed read old source output mid last c.in-Ok-perform.end c.close.result performed closes (λ is. ap (λ r. g.E.Sink.seen r) (c.close.ensures.none is)) c.close.ensures.cause c.close.ensures.same in
    record {
      call = IsRunOf read c.in-Ok.ensures.read performed.valid run;
      faults = subst (λ s. HaveFailed s old (streams source output last)) (sym c.into.ensures) failed;
      master = λ settings reads.
          subst (λ s. Masters s old (streams source output last) result) (same_settings _ _ _ c.in-Ok.ensures.read reads)
          (run_masters read old (streams source output last) result (not_listed read Master c.in-Ok.ensures.valid refl) run);
      recover = λ settings reads.
          subst (λ s. Recovers s old (streams source output last) result) (same_settings _ _ _ c.in-Ok.ensures.read reads)
          (run_recovers read old (streams source output last) result run);
      round_trip = λ settings reads.
          subst (λ s. GivesImage s old (streams source output last) result) (same_settings _ _ _ c.in-Ok.ensures.read reads)
          (run_gives read old (streams source output last) result run);
    }

pub returns-in-Err-Setting : goal.returns-in-Err-Setting
returns-in-Err-Setting g c =
    let read = c.in-Ok.settings in
    let fault = c.in-Err-Setting.fault in
    let broken : breaks read ≡ Some fault = subst (IsRefusal read) c.in-Err-Setting.field-0-is c.in-Err-Setting.ensures.performed in
    let same : (settings : Settings) → reading (map string_bytes c.args.words.now) ≡ Some settings → read ≡ settings =
    λ settings reads. same_settings _ _ _ c.in-Ok.ensures.read reads in
    let untouched = c.in-Err-Setting.ensures.untouched refl in
    let refuse = c.refuse-in-Err-Setting in
    let line : c.as_slice-in-Err-Setting.result.now ≡ setting_line fault = c.as_slice-in-Err-Setting.ensures.bytes ∙ c.setting_line.ensures ∙ ap setting_line c.in-Err-Setting.fault-is in
    let new = streams (g.S.Source.seen c.perform.new.src) (g.K.Sink.seen c.perform.new.out) (g.E.Sink.seen refuse.new.report) in
    let old = streams (g.S.Source.seen c.args.src.now) (g.K.Sink.seen c.args.out.now) (g.E.Sink.seen c.args.report.now) in
    let reports : Reports status.Setting (setting_line fault) old.report new.report refuse.result =
    subst (λ r. Reports status.Setting (setting_line fault) (g.E.Sink.seen r) new.report refuse.result) untouched.2
    (subst (λ l. Reports status.Setting l (g.E.Sink.seen c.perform.new.report) new.report refuse.result) line refuse.ensures) in
    record {
      call = IsSetting read fault c.in-Ok.ensures.read broken (untouched.0, untouched.1) reports;
      faults = no_run_failed status.Setting (setting_line fault) old new refuse.result
          (λ on. (
            inr (record { faults = ap (λ s. (g.S.Source.seen s).faults) untouched.0; ends = ap (λ s. (g.S.Source.seen s).ends) untouched.0 }),
            record { faults = ap (λ s. (g.K.Sink.seen s).faults) untouched.1; ends = ap (λ s. (g.K.Sink.seen s).ends) untouched.1 },
            on,
          )) reports;
      master = λ settings reads layout image is is_layout known size none.
          absurd (no_setting settings fault layout (ap (λ w. (meaning w).breaks settings) is) is_layout (subst (λ s. breaks s ≡ Some fault) (same settings reads) broken));
      recover = λ settings reads layout capture is plain is_layout known size none.
          absurd (no_setting settings fault layout (ap (λ w. (meaning w).breaks settings) is) is_layout (subst (λ s. breaks s ≡ Some fault) (same settings reads) broken));
      round_trip = λ settings reads layout cpr image stream is plain is_layout cpr_size size is_stream known none.
          absurd (no_setting settings fault layout (ap (λ w. (meaning w).breaks settings) is) is_layout (subst (λ s. breaks s ≡ Some fault) (same settings reads) broken));
    }
