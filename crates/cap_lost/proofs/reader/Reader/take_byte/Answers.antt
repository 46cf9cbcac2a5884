-- The proof of `Reader::take_byte` in src/reader.rt.
use Rattle.std.proofs.Common.{◌≡◌, ◌∙◌, ◌==◌, ◌∷◌, false, length, arith, subst, sym}
use Rattle.std.proofs.lemmas.Bool.{eqb-false, eqb-true, ne_eqb}
use Rattle.cap_map.specs.Fields.{line_length}
use Rattle.cap_lost.specs.Inner.{StopsAs, goes_on, sayings_of}
use Rattle.cap_lost.proofs.LineEnds.{pushed}
use Rattle.cap_lost.proofs.Readings.{too_long}
use Rattle.cap_lost.proofs.reader.Reader.take_byte.Goals as goal

pub returns-then-is_full-clause-rule : goal.returns-then-is_full-clause-rule
returns-then-is_full-clause-rule c =
    let self = c.args.self.now in
    let full : length self.line.items ≡ 128 = eqb-true (length self.line.items) 128 (sym c.is_full.ensures.value ∙ c.if-is_full.true) in
    let other : (c.args.byte == 10) ≡ false = ne_eqb c.args.byte 10 c.if-byte-eq10.false in
    subst (StopsAs (λ rest. goes_on self (c.args.byte ∷ rest))) (sym c.breaks.ensures)
    (λ rest. too_long self.layout self.zones (sayings_of self.draft) self.number self.line.items c.args.byte rest full c.requires.sound.within other)

pub returns-clause-sound : goal.returns-clause-sound
returns-clause-sound c =
    let other : (c.args.byte == 10) ≡ false = ne_eqb c.args.byte 10 c.if-byte-eq10.false in
    record {
      number = c.requires.sound.number;
      counted = c.requires.sound.counted;
      within = subst (λ l. line_length l ≡ length l) (sym c.push.ensures.items) (pushed c.args.self.now.line.items c.args.byte c.requires.sound.within other);
      short = omega (arith, c.push.ensures.len, c.is_full.ensures.fits, eqb-false (length c.args.self.now.line.items) 128 (sym c.is_full.ensures.value ∙ c.if-is_full.false));
    }
