-- A run over a capture that opens with a header, and one over bytes that open with none.
use Rattle.std.proofs.Common.{◌≡◌, ◌∙◌, inl, inr, ℕ, List, [], ◌++◌, refl, sym, ap, subst, append-nil, None}
use Rattle.dvd_ports.specs.Bytes.{Consumes}
use Rattle.dvd_capture.specs.Captured.{HasSize}
use Rattle.dvd_capture.specs.declared.form.Form.{Form}
use Rattle.dvd_capture.specs.declared.form.Form.TheVariants.{Plain, Marked, Listed}
use Rattle.dvd_layout.specs.declared.layout.Layout.{Layout}
use Rattle.dvd_loop.specs.Machine.{Outcome, ended, taking, IsOutcome}
use Rattle.dvd_loop.specs.Streams.{HasEnded, HaveCauses, HaveGoneOn, Streams, streams}
use Rattle.dvd_loop.specs.declared.ends.LoopEnd.{LoopEnd}
use Rattle.dvd_loop.proofs.StreamLemmas.{causes_first, comes_after, ended_as, told_before}
use Rattle.dvd_ports.specs.Seen.{Seen}
use Rattle.dvd_ports.proofs.KnownLemmas.{Appends-none}
use Rattle.dvd_commands.specs.Commands.{GoesOver, breaks_in, meaning}
use Rattle.dvd_commands.specs.Meaning.{GoesBy}
use Rattle.dvd_commands.specs.Inner.Opened.{EndsInHeader, HasBegun, HasOpened, NoLoop}
use Rattle.dvd_commands.specs.Performed.{HasGoneOver, HasLooped}
use Rattle.dvd_commands.specs.Opening.{ComesAfterHeader, IsOpened, Opens}
use Rattle.dvd_words.specs.Settings.{broken_rule}
use Rattle.dvd_words.specs.declared.table.Command.{Command}
use Rattle.dvd_words.specs.declared.settings.Settings.{Settings}

-- WORDS. What holds of a command by its words alone holds of its run, where no header comes first.
pub opens_by_words : (form : Form) → HasSize form → (Loops : Settings → List ℕ → Outcome → Type 0) (settings : Settings) (bytes : List ℕ) (outcome : Outcome)
    → Loops settings bytes outcome → Opens form Loops settings bytes outcome
opens_by_words Plain sized Loops settings bytes outcome loop = loop
opens_by_words Marked sized Loops settings bytes outcome loop = loop
opens_by_words Listed sized Loops settings bytes outcome loop = absurd (sized refl)

-- and what holds of its run holds of the command by its words
pub words_of : (form : Form) → HasSize form → (Loops : Settings → List ℕ → Outcome → Type 0) (settings : Settings) (bytes : List ℕ) (outcome : Outcome)
    → Opens form Loops settings bytes outcome → Loops settings bytes outcome
words_of Plain sized Loops settings bytes outcome loop = loop
words_of Marked sized Loops settings bytes outcome loop = loop
words_of Listed sized Loops settings bytes outcome loop = absurd (sized refl)

-- the rules that its run breaks are those that the command breaks by its words
pub breaks_by_words : (form : Form) → HasSize form → (settings : Settings) → breaks_in form settings ≡ (meaning settings.command).breaks settings
breaks_by_words Plain sized settings = refl
breaks_by_words Marked sized settings = refl
breaks_by_words Listed sized settings = absurd (sized refl)

-- A loop over the units that a command has by its settings goes over them,
pub goes_over : (command : Command) (settings : Settings) → settings.command ≡ command
    → (subject : (meaning command).Subject) → (meaning command).IsSubject settings subject
    → (old new : Streams) (end : LoopEnd) → HasEnded (IsOutcome ((meaning command).units settings subject)) old new end
    → HasEnded (GoesOver settings) old new end
goes_over command settings is subject has old new end =
    ended_as (IsOutcome ((meaning command).units settings subject)) (GoesOver settings) old new end
    (λ bytes outcome runs. subst (λ c. GoesBy (meaning c) settings bytes outcome) (sym is) (subject, has, runs))

-- so that this is all that the command does, where it breaks no rule
pub gone_over : (command : Command) (settings : Settings) → settings.command ≡ command → (meaning command).breaks settings ≡ None
    → (subject : (meaning command).Subject) → (meaning command).IsSubject settings subject
    → (old new : Streams) (end : LoopEnd) → HasEnded (IsOutcome ((meaning command).units settings subject)) old new end
    → HasGoneOver settings old new end
gone_over command settings is valid subject has old new end ended = record {
  valid = subst (λ c. (meaning c).breaks settings ≡ None) (sym is) valid;
  loop = goes_over command settings is subject has old new end ended;
}

-- and a command that has gone over its units has run
pub looped_by_words : (settings : Settings) → HasSize settings.form → (old new : Streams) (end : LoopEnd) → HasGoneOver settings old new end
    → HasLooped settings old new end
looped_by_words settings sized old new end gone = record {
  valid = breaks_by_words settings.form sized settings ∙ gone.valid;
  loop = ended_as (GoesOver settings) (Opens settings.form GoesOver settings) old new end (opens_by_words settings.form sized GoesOver settings) gone.loop;
}

-- A HEADER was taken, and after it came a loop over the units that the command has by the settings that the header
-- states.
pub opened_over : (command : Command) (settings stated : Settings) (layout : Layout) → settings.command ≡ command
    → (old read output report : Seen) (new : Streams) (end : LoopEnd) → HasOpened settings old read stated layout
    → HaveGoneOn (streams old output report) (streams read output report)
    → (subject : (meaning command).Subject) → (meaning command).IsSubject stated subject
    → HasEnded (IsOutcome ((meaning command).units stated subject)) (streams read output report) new end
    → HasEnded (IsOpened GoesOver settings) (streams old output report) new end
opened_over command settings stated layout is old read output report new end opened causes subject has ended =
    let over = goes_over command stated (ap (λ s. s.command) opened.header.states.all ∙ is) subject has (streams read output report) new end ended in record {
      comes = comes_after (GoesOver stated) (IsOpened GoesOver settings) (streams old output report) (streams read output report) new end opened.own [] []
          (record { reads = opened.reads; writes = Appends-none output.bytes; reports = Appends-none report.bytes })
          (λ left after holds. record {
            own = opened.own;
            left = left;
            prefix = refl;
            after = after;
            comes = inr (opened.whole, inr (stated, opened.header, opened.valid, holds));
            takes = refl;
          })
          over.comes;
      causes = causes_first (streams old output report) (streams read output report) new end end causes over.causes;
    }

-- what comes after a header where no loop does may come whatever the loops are
behind_none : (Loops : Settings → List ℕ → Outcome → Type 0) (settings : Settings) (own left : List ℕ) (after : Outcome)
    → ComesAfterHeader NoLoop settings own left after → ComesAfterHeader Loops settings own left after
behind_none Loops settings own left after (inl early) = inl early
behind_none Loops settings own left after (inr (whole, inl broken)) = inr (whole, inl broken)
behind_none Loops settings own left after (inr (whole, inr (stated, header, valid, none))) = absurd none

-- a run that ended in its header is one of a listed capture
pub opened_ended : (Loops : Settings → List ℕ → Outcome → Type 0) (settings : Settings) (old read output report : Seen) (end : LoopEnd)
    → EndsInHeader settings old read end → HaveCauses end end (streams old output report) (streams read output report)
    → HasEnded (IsOpened Loops settings) (streams old output report) (streams read output report) end
opened_ended Loops settings old read output report end ended_in causes = record {
  comes = record {
    bytes = ended_in.own ++ ended_in.left;
    known = told_before old.bytes read.bytes ended_in.own ended_in.left ended_in.reads ended_in.known;
    outcome = taking ended_in.own (ended end);
    holds = record {
      own = ended_in.own;
      left = ended_in.left;
      prefix = refl;
      after = ended end;
      comes = behind_none Loops settings ended_in.own ended_in.left (ended end) ended_in.ends;
      takes = refl;
    };
    ends = refl;
    moved = record {
      reads = subst (Consumes old.bytes read.bytes) (sym (append-nil ended_in.own)) ended_in.reads;
      writes = Appends-none output.bytes;
      reports = Appends-none report.bytes;
    };
  };
  causes = causes;
}

-- so a listed capture has run
pub looped_listed : (settings : Settings) → settings.form ≡ Listed → (old new : Streams) (end : LoopEnd) → HasEnded (IsOpened GoesOver settings) old new end
    → HasLooped settings old new end
looped_listed settings is old new end ended = record {
  valid = ap (λ form. breaks_in form settings) is;
  loop = subst (λ form. HasEnded (Opens form GoesOver settings) old new end) (sym is) ended;
}

-- A command that may go over its blocks by these settings, and has gone over the units that it has by them, has run;
pub looped_over : (command : Command) (settings stated : Settings) (layout : Layout) → settings.command ≡ command
    → (broken_rule settings ≡ None → (meaning command).breaks settings ≡ None)
    → (old read output report : Seen) (new : Streams) (end : LoopEnd) → HasBegun settings old read stated layout
    → HaveGoneOn (streams old output report) (streams read output report)
    → (subject : (meaning command).Subject) → (meaning command).IsSubject stated subject
    → HasEnded (IsOutcome ((meaning command).units stated subject)) (streams read output report) new end
    → HasLooped settings (streams old output report) new end
looped_over command settings stated layout is valid old read output report new end (inl (sized, unbroken, same, unread)) causes subject has ended =
    let m = meaning command in
    looped_by_words settings sized (streams old output report) new end
    (gone_over command settings is (valid unbroken) subject (subst (λ s. m.IsSubject s subject) same has) (streams old output report) new end
    (subst (λ s. HasEnded (IsOutcome (m.units s subject)) (streams old output report) new end) same
    (subst (λ seen. HasEnded (IsOutcome (m.units stated subject)) (streams seen output report) new end) unread ended)))
looped_over command settings stated layout is valid old read output report new end (inr (listed, opened)) causes subject has ended =
    looped_listed settings listed (streams old output report) new end
    (opened_over command settings stated layout is old read output report new end opened causes subject has ended)

-- and so has one that ended in the header of its capture
pub looped_no_further : (settings : Settings) (old read output report : Seen) (end : LoopEnd)
    → (settings.form ≡ Listed) × EndsInHeader settings old read end → HaveCauses end end (streams old output report) (streams read output report)
    → HasLooped settings (streams old output report) (streams read output report) end
looped_no_further settings old read output report end (listed, ended_in) causes =
    looped_listed settings listed (streams old output report) (streams read output report) end
    (opened_ended GoesOver settings old read output report end ended_in causes)
