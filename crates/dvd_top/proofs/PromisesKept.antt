-- The promise in plain words holds of every run, and of each call that doesn't come to a run.
use Rattle.std.proofs.Common.{◌≡◌, ◌≢◌, ◌⊎◌, ◌∙◌, inl, inr, ℕ, List, [], ◌++◌, None, Some, refl, ap, sym, subst, ◌+◌, ◌*◌, length, arith}
use Rattle.std.specs.Prelude.{codes}
use Rattle.dvd_capture.specs.declared.form.Form.{Form}
use Rattle.dvd_capture.specs.declared.form.Form.TheVariants.{Listed, Marked, Plain}
use Rattle.dvd_layout.specs.Lengths.{first_fault}
use Rattle.dvd_layout.specs.declared.fault.LayoutFault.{LayoutFault}
use Rattle.dvd_layout.specs.declared.layout.Layout.{Layout}
use Rattle.dvd_layout.proofs.NoFault.{no_fault}
use Rattle.dvd_loop.specs.Laws.{IsFaultless, IsOver}
use Rattle.dvd_loop.specs.Machine.{IsOutcome, Outcome}
use Rattle.dvd_loop.specs.Streams.{HaveMoved, Streams}
use Rattle.dvd_loop.specs.declared.ends.LoopEnd.{LoopEnd}
use Rattle.dvd_loop.specs.declared.ends.LoopEnd.TheVariants.{Damaged, Done}
use Rattle.dvd_ports.specs.Seen.{Seen}
use Rattle.dvd_ports.specs.Causes.{HasGoneOn, Rose}
use Rattle.dvd_ports.proofs.StopLemmas.{rose}
use Rattle.dvd_commands.specs.Commands.{GoesOver, breaks, breaks_in, meaning}
use Rattle.dvd_commands.specs.Master.{master_units, bytes_of_block}
use Rattle.dvd_commands.specs.Recover.{recover_units, IsRecovered}
use Rattle.dvd_top.specs.Headline.{HaveFailed, IsLoop, IsRun, Reports}
use Rattle.dvd_top.specs.Lines.{closing_line}
use Rattle.dvd_top.specs.Promises.{GivesImage, Masters, NoneFailed, Recovers, WasInput}
use Rattle.dvd_top.specs.Statuses.{status_of}
use Rattle.dvd_top.specs.declared.status.Status.{Status}
use Rattle.dvd_top.specs.declared.status.Status.TheVariants as status
use Rattle.dvd_words.specs.Settings.{IsLayoutOf, broken_rule}
use Rattle.dvd_words.specs.declared.table.Command.TheVariants.{Master, Recover}
use Rattle.dvd_words.specs.declared.settings.Settings.{Settings}
use Rattle.dvd_commands.proofs.OneRun.{one_layout}
use Rattle.dvd_commands.specs.Meaning.{GoesBy}
use Rattle.dvd_top.proofs.MasteredStream.{image_mastered, stream_recovered}
use Rattle.dvd_top.proofs.RefusedReport.{capture_reported, refused_blocks}
use Rattle.dvd_top.proofs.RunEnds.{closes_is, in_words}
use Rattle.std.proofs.lemmas.List.{append_cancel_left, take_all}
use Rattle.dvd_capture.specs.Captured.{block_size}
use Rattle.dvd_layout.specs.Plan.{plan_of}
use Rattle.dvd_loop.proofs.EndsBySize.{ends_so}
use Rattle.dvd_top.specs.Laws.{CaptureIsRecovered}
use Rattle.dvd_commands.proofs.PlanBytes.{start-all}
use Rattle.dvd_commands.proofs.RecoveredWidths.{never_last, recovered-wide}
use Rattle.dvd_commands.proofs.Written.{length-over}
use Rattle.dvd_commands.proofs.ForRuns.{begins_so, block-is, each_there, size-is}

-- the statuses of ends after the last unit
over_status : (end : LoopEnd) → IsOver end → (status_of end ≡ status.Done) ⊎ (status_of end ≡ status.Damaged)
over_status Done over = inl refl
over_status (Damaged blocks) over = inr refl
over_status end over = absurd over

-- A run of which no call failed, over these bytes.
module _ (settings : Settings) (old new : Streams) (result : Status) (run : IsRun settings old new result) (bytes : List ℕ) (input : WasInput old new bytes) (none : NoneFailed old new) where
  -- its end is that of its loop
  same : run.line.end ≡ run.loop.end
  same = (run.complete none).1

  -- which no fault ended
  faultless : IsFaultless run.loop.end
  faultless = subst IsFaultless same (run.complete none).0

  -- it goes over these bytes
  goes : settings.form ≢ Listed → GoesOver settings bytes run.loop
  goes plain =
      let runs : IsLoop settings bytes run.loop = elim input [
        | inl known ↦ (run.known bytes known).is_loop
        | inr returned ↦
            let taken : run.loop.taken ≡ bytes = append_cancel_left old.source.bytes.moved run.loop.taken bytes (sym run.moved.reads.log ∙ returned) in
            subst (λ b. IsLoop settings b run.loop) taken run.returned.is_loop
      ] in
      in_words settings.form settings bytes run.loop plain runs

  -- its closing line is reported whole
  closed : run.line.lines ≡ closing_line settings.command run.loop.end
  closed = ap (λ (o : Outcome). o.lines) (closes_is (closing_line settings.command) run.loop.end run.line run.closes (λ is. subst IsFaultless is (run.complete none).0))

  -- where the loop is done, `done` is reported after its lines
  done-moved : (taken out : List ℕ) → run.loop ≡ record { taken = taken; out = out; lines = []; end = Done }
      → (result ≡ status.Done) × HaveMoved old new taken out (codes "done\n")
  done-moved taken out all =
      let done : run.loop.end ≡ Done = ap (λ (o : Outcome). o.end) all in
      let line : run.line.lines ≡ codes "done\n" = closed ∙ ap (closing_line settings.command) done in (
        run.is_status ∙ ap status_of (same ∙ done),
        subst (λ (o : Outcome). HaveMoved old new o.taken o.out (o.lines ++ codes "done\n")) all
            (subst (λ l. HaveMoved old new run.loop.taken run.loop.out (run.loop.lines ++ l)) line run.moved),
      )

-- `master` writes the stream of the image
pub run_masters : (settings : Settings) (old new : Streams) (result : Status) → (settings.command ≡ Master → settings.form ≢ Listed) → IsRun settings old new result
    → Masters settings old new result
run_masters settings old new result plain run layout image is is_layout known size none =
    let goes_over = goes settings old new result run image known none (plain is) in
    let (own, is_own, runs) = subst (λ c. GoesBy (meaning c) settings image run.loop) is goes_over in
    let over = subst (λ l. IsOutcome (master_units l settings.zones settings.cpr) image run.loop) (one_layout settings own layout is_own is_layout) runs in
    let (stream, is_stream, all) = image_mastered layout settings.zones settings.cpr image run.loop size over (faultless settings old new result run image known none) in
    let (done, moved) = done-moved settings old new result run image known none image stream all in
    inr (done, (stream, is_stream, moved))

-- the law: what is written for a capture are its image sectors, block by block
pub capture_recovered : CaptureIsRecovered
capture_recovered layout zones form capture a one rows runs none =
    let units = recover_units layout zones form in
    let wide = recovered-wide layout zones form in
    let count = length (plan_of layout zones) in
    let size : length capture ≡ count * block_size form = rows ∙ ap (λ n. count * n) (size-is form one) in
    let ends = ends_so units (block_size form) (record {
      begins = λ k bytes. begins_so form one bytes;
      never_last = never_last layout zones form (IsRecovered layout zones form) wide;
      asks = refl;
    }) capture a runs none in
    let over = ends.over.1 size in
    let all = length-over units (bytes_of_block layout zones) (record {
      opens = refl;
      does = λ before own steps kind unit. wide (length before) own steps kind unit.does;
      closes = λ before steps nothing. nothing;
    }) capture a runs none over in (
      record {
        size = all ∙ start-all layout zones;
        each = λ k entry own is_there own_is.
            each_there layout zones form capture a one size runs none entry.content k entry own is_there refl (own_is ∙ sym (block-is form one capture k));
      },
      ends.taken ∙ take_all (count * block_size form + 1) capture (omega (arith, size)),
      over,
    )

-- `recover` writes the image sectors of the capture
pub run_recovers : (settings : Settings) (old new : Streams) (result : Status) → IsRun settings old new result → Recovers settings old new result
run_recovers settings old new result run layout capture is plain is_layout known size none =
    let goes_over = goes settings old new result run capture known none plain in
    let (own, is_own, runs) = subst (λ c. GoesBy (meaning c) settings capture run.loop) is goes_over in
    let over = subst (λ l. IsOutcome (recover_units l settings.zones settings.form) capture run.loop) (one_layout settings own layout is_own is_layout) runs in
    let (image, taken, ends) = capture_recovered layout settings.zones settings.form capture run.loop plain size over (faultless settings old new result run capture known none) in
    let (report, end) = capture_reported layout settings.zones settings.form capture run.loop plain
    (size ∙ ap (λ n. length (plan_of layout settings.zones) * n) (size-is settings.form plain)) over
    (faultless settings old new result run capture known none) in
    let line : run.line.lines ≡ closing_line Recover run.loop.end =
    closed settings old new result run capture known none ∙ ap (λ c. closing_line c run.loop.end) is in
    inr (
      run.loop.out,
      run.loop.lines,
      refused_blocks layout settings.zones settings.form capture,
      image,
      report,
      run.is_status ∙ ap status_of (same settings old new result run capture known none ∙ end),
      subst (λ l. HaveMoved old new capture run.loop.out (run.loop.lines ++ l)) (line ∙ ap (closing_line Recover) end)
          (subst (λ l. HaveMoved old new l run.loop.out (run.loop.lines ++ run.line.lines)) taken run.moved),
    )

-- and gives the image of a stream back
pub run_gives : (settings : Settings) (old new : Streams) (result : Status) → IsRun settings old new result → GivesImage settings old new result
run_gives settings old new result run layout cpr image stream is plain is_layout cpr_size size is_stream known none =
    let goes_over = goes settings old new result run stream known none (λ listed. let no : Plain ≡ Listed = sym plain ∙ listed in cc) in
    let (own, is_own, runs) = subst (λ c. GoesBy (meaning c) settings stream run.loop) is goes_over in
    let over = subst (λ l. IsOutcome (recover_units l settings.zones settings.form) stream run.loop) (one_layout settings own layout is_own is_layout) runs in
    let back = stream_recovered layout settings.zones cpr image stream run.loop cpr_size size is_stream
    (subst (λ f. IsOutcome (recover_units layout settings.zones f) stream run.loop) plain over) (faultless settings old new result run stream known none) in
    inr (done-moved settings old new result run stream known none stream image back)

-- A line that no failed call cut is reported, and its status is the wanted one.
pub reported : (wanted : Status) (line : List ℕ) (old new : Seen) (result : Status) → Reports wanted line old new result → (Rose old.faults new.faults → ⊥)
    → result ≡ wanted
reported wanted line old new result reports none = elim reports [
  | inl (is, known, on) ↦ is
  | inr (is, begun, failed) ↦ absurd (none (rose old new failed))
]

-- and where none but that of its line may have failed, the calls are those of its status
pub no_run_failed : (wanted : Status) (line : List ℕ) (old new : Streams) (result : Status) → (HasGoneOn old.report new.report → HaveFailed wanted old new)
    → Reports wanted line old.report new.report result → HaveFailed result old new
no_run_failed wanted line old new result told_whole reports = elim reports [
  | inl (is, known, on) ↦ subst (λ s. HaveFailed s old new) (sym is) (told_whole on)
  | inr (is, begun, failed) ↦ subst (λ s. HaveFailed s old new) (sym is) failed
]

-- A LAYOUT breaks no rule.
valid_layout : (settings : Settings) (layout : Layout) → IsLayoutOf settings layout → broken_rule settings ≡ None
valid_layout settings layout is =
    let a = subst (λ s. first_fault s layout.sectors0 layout.sectors1 layout.initial layout.tail ≡ None) is.shape (no_fault layout) in
    let b = subst (λ n. first_fault settings.shape n layout.sectors1 layout.initial layout.tail ≡ None) is.sectors0 a in
    let c = subst (λ n. first_fault settings.shape settings.sectors n layout.initial layout.tail ≡ None) is.sectors1 b in
    let d = subst (λ n. first_fault settings.shape settings.sectors settings.sectors1 n layout.tail ≡ None) is.initial c in
    subst (λ n. first_fault settings.shape settings.sectors settings.sectors1 settings.initial n ≡ None) is.tail d

-- where the words break none, their run doesn't
no_break : (form : Form) (settings : Settings) → (meaning settings.command).breaks settings ≡ None → breaks_in form settings ≡ None
no_break Plain settings none = none
no_break Marked settings none = none
no_break Listed settings none = refl

-- so settings that have a layout aren't refused for one
pub no_setting : (settings : Settings) (fault : LayoutFault) (layout : Layout) → (meaning settings.command).breaks settings ≡ broken_rule settings
    → IsLayoutOf settings layout → breaks settings ≡ Some fault → ⊥
no_setting settings fault layout same is broken =
    let none : breaks settings ≡ None = no_break settings.form settings (same ∙ valid_layout settings layout is) in
    let no : None ≡ Some fault = sym none ∙ broken in cc
