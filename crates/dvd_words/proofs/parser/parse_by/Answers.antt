-- The proof of `parse_by` in src/parser.rt.
use Rattle.std.proofs.Common.{map, string_bytes, inl, inr, rules}
use Rattle.clap.specs.Words.{app_of}
use Rattle.clap.specs.Values.{kind_of}
use Rattle.dvd_words.proofs.Parsed.{rows_refused, rows_taken, simple}
use Rattle.dvd_words.proofs.parser.parse_by.Goals as goal

pub returns-in-Ok-clause-taken : goal.returns-in-Ok-clause-taken
returns-in-Ok-clause-taken c =
    let app = app_of c.args.parser in
    let rows = c.in-Ok.ensures.matches (simple app c.requires) in
    rows_taken app (map string_bytes c.args.words.now) _ (c.in-Ok.ensures.kinds c.requires) rows.0

pub returns-clause-refused : goal.returns-clause-refused
returns-clause-refused c usage =
    elim (c.in-Err.ensures.kinds c.requires) [
      | inl memory ↦ absurd (search (rules, memory))
      | inr among ↦ rows_refused (app_of c.args.parser) (map string_bytes c.args.words.now) (kind_of c.in-Err.error) among
    ]
