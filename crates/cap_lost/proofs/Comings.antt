-- What a reader has of a report that is read from a source.
use Rattle.std.proofs.Common.{◌≡◌, ◌∙◌, inl, inr, ℕ, List, [], ◌++◌, Ok, Err, Result, ap, subst, sym, append_assoc, append-nil}
use Rattle.std.specs.Prelude.{IfErr, IfOk}
use Rattle.dvd_ports.specs.Bytes.{Consumes, IsAtEnd}
use Rattle.dvd_layout.specs.declared.layout.Layout.{Layout}
use Rattle.dvd_layout.specs.declared.layout.Zones.{Zones}
use Rattle.dvd_ports.specs.Causes.{HasGoneOn, HasMetEnd}
use Rattle.dvd_ports.specs.Seen.{Seen}
use Rattle.dvd_ports.proofs.KnownLemmas.{Consumes-none, Consumes-then}
use Rattle.dvd_ports.proofs.StopLemmas.{ends_after, goes_on as gone_on, unmoved}
use Rattle.cap_lost.specs.Inner.{HasCome, IsReaderSound, StopsAs, goes_on}
use Rattle.cap_lost.specs.Lost.{losses_in}
use Rattle.cap_lost.specs.Reads.{IsReportRefused, ReadsReport}
use Rattle.cap_lost.specs.Report.{IsFaultOf, losses_of}
use Rattle.cap_lost.specs.declared.draft.Lost.{Lost}
use Rattle.cap_lost.specs.declared.fault.ReportFault.{ReportFault}
use Rattle.cap_lost.specs.declared.fault.ReportFault.TheVariants.{NoMemory, ReadFault, Rule}
use Rattle.cap_lost.specs.declared.reader.Reader.{Reader}

module _ (layout : Layout) (zones : Zones) (old : Seen) where
  pub none_came : (reader : Reader) → ((text : List ℕ) → goes_on reader text ≡ losses_of layout zones text) → IsReaderSound reader → HasCome layout zones old old reader
  none_came reader begins sound = record { text = []; taken = Consumes-none old.bytes; on = unmoved old; says = λ rest. sym (begins rest); sound = sound }

  module _ (mid new : Seen) (reader : Reader) (come : HasCome layout zones old mid reader) where
    -- a piece more
    pub more_came : (piece : List ℕ) (without_prefix : Reader) → Consumes mid.bytes new.bytes piece → HasGoneOn mid new
        → ((rest : List ℕ) → goes_on reader (piece ++ rest) ≡ goes_on without_prefix rest) → IsReaderSound without_prefix → HasCome layout zones old new without_prefix
    more_came piece without_prefix taken on reads sound = record {
      text = come.text ++ piece;
      taken = Consumes-then old.bytes mid.bytes new.bytes come.text piece come.taken taken;
      on = gone_on old mid new come.on on;
      says = λ rest. ap (losses_of layout zones) (append_assoc come.text piece rest) ∙ come.says (piece ++ rest) ∙ reads rest;
      sound = sound;
    }

    -- a piece of which a line breaks a rule
    pub piece_refused : (piece : List ℕ) (fault : ReportFault) → Consumes mid.bytes new.bytes piece → HasGoneOn mid new
        → StopsAs (λ rest. goes_on reader (piece ++ rest)) fault → IsReportRefused layout zones old new fault
    piece_refused piece NoMemory taken on stops = tt
    piece_refused piece ReadFault taken on stops = absurd stops
    piece_refused piece (Rule line cause) taken on stops = inl (record {
      text = come.text ++ piece;
      taken = Consumes-then old.bytes mid.bytes new.bytes come.text piece come.taken taken;
      on = gone_on old mid new come.on on;
      says = λ rest. ap (losses_of layout zones) (append_assoc come.text piece rest) ∙ come.says (piece ++ rest) ∙ stops rest;
    })

    module _ (taken : Consumes mid.bytes new.bytes []) (at_end : IsAtEnd new.bytes) (met : HasMetEnd mid new) where
      all_taken : Consumes old.bytes new.bytes come.text
      all_taken = subst (Consumes old.bytes new.bytes) (append-nil come.text) (Consumes-then old.bytes mid.bytes new.bytes come.text [] come.taken taken)

      says_all : losses_of layout zones come.text ≡ goes_on reader []
      says_all = sym (ap (losses_of layout zones) (append-nil come.text)) ∙ come.says []

      -- the end
      pub end_read : (answer : Result Lost ReportFault) → IfOk answer (λ lost. goes_on reader [] ≡ Ok (losses_in lost)) → IfOk answer (λ lost. ReadsReport layout zones old new (losses_in lost))
      end_read (Err fault) is = tt
      end_read (Ok lost) is = record { text = come.text; taken = all_taken; at_end = at_end; met = ends_after old mid new come.on met; says = says_all ∙ is }

      fault_refused : (fault : ReportFault) → IsFaultOf (goes_on reader []) fault → IsReportRefused layout zones old new fault
      fault_refused NoMemory is = tt
      fault_refused ReadFault is = absurd is
      fault_refused (Rule line cause) is =
          inr (record { text = come.text; taken = all_taken; at_end = at_end; met = ends_after old mid new come.on met; says = says_all ∙ is })

      pub end_refused : (answer : Result Lost ReportFault) → IfErr answer (IsFaultOf (goes_on reader [])) → IfErr answer (IsReportRefused layout zones old new)
      end_refused (Ok lost) is = tt
      end_refused (Err fault) is = fault_refused fault is
