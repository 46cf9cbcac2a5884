-- The captures of a block, one after the other, as `merge` takes them.
use Rattle.std.proofs.Common.{◌≡◌, ◌∙◌, ℕ, ◌+◌, ◌*◌, ◌<◌, ◌≤◌, ◌^◌, Bool, List, [], ◌∷◌, ◌++◌, length, map, Result, Err, IfErr, inl, inr, refl, ap, sym, subst, arith, length-append}
use Rattle.std.specs.List.{range_with_len}
use Rattle.std.proofs.lemmas.Bool.{cases_lt}
use Rattle.std.proofs.lemmas.List.{ext_get_or, get_or_append_left, get_or_push}
use Rattle.std.proofs.lemmas.List.FromFn.{length-map-range_with_len, get_or-map-range_with_len}
use Rattle.std.proofs.lemmas.List.Sums.{fold_push}
use Rattle.std.proofs.lemmas.Nat.{mul-le}
use Rattle.dvd_ports.specs.Bytes.{Bytes}
use Rattle.dvd_capture.specs.Captured.{Captures, EndsAfter, FailsWithin, HasSize, block_size, captured_rows}
use Rattle.dvd_capture.specs.declared.form.Form.{Form}
use Rattle.dvd_capture.specs.declared.form.Form.TheVariants.{Listed, Plain, Marked}
use Rattle.dvd_capture.proofs.Fetching.{part-append, part-after, sized-block}
use Rattle.dvd_loop.specs.UnitCommand.{EndsShort}
use Rattle.dvd_loop.specs.declared.ends.LoopEnd.{LoopEnd}
use Rattle.dvd_loop.specs.declared.ends.LoopEnd.TheVariants.{ReadFault, Short}
use Rattle.dvd_ports.proofs.KnownLemmas.{Consumes-none}
use Rattle.dvd_merge.specs.Join.{Table, join_tables, joined, seen_table, unseen}
use Rattle.dvd_ports.specs.Seen.{Seen}
use Rattle.dvd_ports.proofs.KnownLemmas.{Consumes-then}
use Rattle.dvd_commands.specs.Merge.{capture_in, table_in, tables_in}
use Rattle.dvd_commands.specs.Inner.Performing.{AreTaken, EndsInCapture}

-- a captured block of rows and marks has at most so many bytes
pub block_size-le : (form : Form) → block_size form ≤ 42640
block_size-le Plain = omega arith
block_size-le Marked = omega arith
block_size-le Listed = omega arith

-- part c of n parts of one size ends within all
parts-le : (s c n : ℕ) → c < n → s * c + s ≤ n * s
parts-le s c n lt =
    let most = mul-le s (c + 1) s n (omega arith) (omega (arith, lt)) in grind (arith, most)

-- one part more
size-more : (s n a b : ℕ) → a ≡ n * s → b ≡ s → a + b ≡ (n + 1) * s
size-more s n a b before own = grind (arith, before, own)

module _ (form : Form) (n : ℕ) (bytes own : List ℕ) (size : length bytes ≡ n * block_size form) (whole : length own ≡ block_size form) where
  -- the captures before the last stay what they were
  capture-before : (c : ℕ) → c < n → capture_in form (bytes ++ own) c ≡ capture_in form bytes c
  capture-before c lt = part-append bytes own (block_size form * c) (block_size form) (omega (arith, size, parts-le (block_size form) c n lt))

  -- the last capture is the one that came
  capture-last : capture_in form (bytes ++ own) n ≡ own
  capture-last = part-after bytes own (block_size form * n) (block_size form) (grind (arith, size)) whole

  -- what capture c of these bytes saw of its block, place by place
  at : List ℕ → ℕ → Table
  at all c = table_in form (capture_in form all c)

  -- so with one capture more there is one table more, its own
  tables_more : tables_in (n + 1) form (bytes ++ own) ≡ tables_in n form bytes ++ table_in form own ∷ []
  unfolding tables_in at
  tables_more =
      let before : List Table = map (at bytes) (range_with_len 0 n) in
      let length_before : length before ≡ n = length-map-range_with_len (at bytes) 0 n in
      let length_all : length (map (at (bytes ++ own)) (range_with_len 0 (n + 1))) ≡ n + 1 = length-map-range_with_len (at (bytes ++ own)) 0 (n + 1) in
      ext_get_or [] (map (at (bytes ++ own)) (range_with_len 0 (n + 1))) (before ++ table_in form own ∷ [])
      (omega (arith, length_all, length_before, length-append before (table_in form own ∷ [])))
      (λ q within. elim (cases_lt q n) [
        | inl lt ↦
            get_or-map-range_with_len (at (bytes ++ own)) 0 (n + 1) q q [] (omega arith) (omega arith)
            ∙ ap (table_in form) (capture-before q lt)
            ∙ sym (get_or_append_left before (table_in form own ∷ []) [] q (omega (arith, length_before, lt))
            ∙ get_or-map-range_with_len (at bytes) 0 n q q [] lt (omega arith))
        | inr le ↦
            let last : q ≡ n = omega (arith, le, within, length_all) in
            get_or-map-range_with_len (at (bytes ++ own)) 0 (n + 1) q n [] (omega arith) (omega arith)
            ∙ ap (table_in form) capture-last
            ∙ sym (get_or_push before (table_in form own) [] q (omega (arith, last, length_before)))
      ])

-- one capture more is joined to the join of those before it
joined-push : (tables : List Table) (table : Table) → joined (tables ++ table ∷ []) ≡ join_tables (joined tables) table
unfolding joined
joined-push tables table = fold_push join_tables unseen tables table

-- no capture is taken
pub none_taken : (form : Form) (seen : Bytes) (table : Table) → table ≡ unseen → AreTaken 0 form seen seen table
unfolding tables_in joined
none_taken form seen table is = record { bytes = []; size = grind arith; taken = Consumes-none seen; joins = is }

-- one capture more
pub capture_taken : (form : Form) → HasSize form → (n : ℕ) (old mid new : Bytes) (table next : Table) (rows : List (List ℕ)) (marks : List (List Bool))
    → AreTaken n form old mid table → Captures form mid new rows marks → next ≡ join_tables table (seen_table rows marks) → AreTaken (n + 1) form old new next
capture_taken form sized n old mid new table next rows marks before own is =
    let whole : length own.bytes ≡ block_size form = own.size ∙ sized-block form sized own.bytes in
    record {
      bytes = before.bytes ++ own.bytes;
      size = length-append before.bytes own.bytes ∙ size-more (block_size form) n (length before.bytes) (length own.bytes) before.size whole;
      taken = Consumes-then old mid new before.bytes own.bytes before.taken own.taken;
      joins = is
          ∙ ap (λ t. join_tables t (seen_table rows marks)) before.joins
          ∙ ap (λ r. join_tables (joined (tables_in n form before.bytes)) (seen_table r marks)) own.rows_are
          ∙ ap (λ m. join_tables (joined (tables_in n form before.bytes)) (seen_table (captured_rows form own.bytes) m)) own.marks_are
          ∙ sym (ap joined (tables_more form n before.bytes own.bytes before.size whole) ∙ joined-push (tables_in n form before.bytes) (table_in form own.bytes));
    }

-- the loop ends within one of the captures
pub captures_short : (form : Form) (n captures k : ℕ) (old : Seen) (mid new : Seen) (table : Table) (end : LoopEnd) → n < captures
    → AreTaken n form old.bytes mid.bytes table → EndsInCapture k (n * block_size form) (block_size form) mid new end → EndsShort k (captures * block_size form) old new end
captures_short form n captures k old mid new table end lt before after_last =
    let size = block_size form in
    let all : length (before.bytes ++ after_last.own) ≡ n * size + length after_last.own = length-append before.bytes after_last.own ∙ ap (λ l. l + length after_last.own) before.size in
    record {
      own = before.bytes ++ after_last.own;
      reads = Consumes-then old.bytes mid.bytes new.bytes before.bytes after_last.own before.taken after_last.reads;
      fewer =
          let most = parts-le size n captures lt in
          let turned : size * n ≡ n * size = grind arith in
          omega (arith, all, most, turned, after_last.fewer);
      ends = elim after_last.ends [
        | inl input ↦ inl (input.0 ∙ ap (λ l. Short k l) (sym all), input.1)
        | inr failed ↦ inr failed
      ];
    }

-- the bytes of a unit up to within one of its captures are few
pub held-few : (form : Form) (c size count : ℕ) → c < 16 → size ≡ block_size form → count < block_size form → c * size + count < 2 ^ 32
held-few form c size count few is within =
    let most : c * size ≤ 15 * 42640 = mul-le c size 15 42640 (omega (arith, few)) (omega (arith, is, block_size-le form)) in
    omega (arith, most, within, block_size-le form)

-- the source ended within a capture
pub capture_short : (form : Form) (k c size count : ℕ) (old new : Seen) → HasSize form → size ≡ block_size form → EndsAfter form old.bytes new.bytes count
    → EndsInCapture k (c * block_size form) (block_size form) old new (Short k (c * size + count))
capture_short form k c size count old new sized is ended =
    let unit = sized-block form sized ended.bytes in record {
      own = ended.bytes;
      reads = ended.taken;
      fewer = omega (arith, ended.fewer, ended.size, unit);
      ends = inl (ap (λ n. Short k (c * n + count)) is ∙ ap (λ n. Short k (c * block_size form + n)) (sym ended.size), ended.at_end);
    }

-- or it had ended before it
pub capture_none : (form : Form) (k c size : ℕ) (old new : Seen) → HasSize form → size ≡ block_size form → EndsAfter form old.bytes new.bytes 0
    → EndsInCapture k (c * block_size form) (block_size form) old new (Short k (c * size))
capture_none form k c size old new sized is ended =
    let none : c * size ≡ c * size + 0 = omega arith in
    subst (EndsInCapture k (c * block_size form) (block_size form) old new) (ap (Short k) (sym none)) (capture_short form k c size 0 old new sized is ended)

-- or a read of it failed
pub capture_failed : (form : Form) (k held : ℕ) (old new : Seen) → HasSize form → FailsWithin form old.bytes new.bytes
    → EndsInCapture k held (block_size form) old new ReadFault
capture_failed form k held old new sized failed =
    let unit = sized-block form sized failed.bytes in
    record { own = failed.bytes; reads = failed.taken; fewer = omega (arith, failed.fewer, unit); ends = inr refl }

-- what holds of the error of an answer that is this error
pub on_err_is : {A : Type 0} (answer : Result A LoopEnd) (end : LoopEnd) (P : LoopEnd → Type 0) → answer ≡ Err end → P end → IfErr answer P
on_err_is answer end P is holds = subst (λ r. IfErr r P) (sym is) holds
