-- `rx_decode::longest_dominant_run_ticks` meets its contract. The loop's invariant: the runs with the ticks of the bytes that are left are
-- those with all ticks. Assumes nothing.
use mathlib.Core.Path.{◌≡◌, sym, ◌∙◌, ap}
use mathlib.Core.List.{List}
use Prim.Native.Nat.{ℕ, ◌+◌, ◌*◌, ◌/◌, ◌%◌, ◌≤◌, ◌<◌, min}
use native.Mathlib.Omega.{arith}
use lib.ListN.{get_or}
use Rattle.std.proofs.lemmas.List.{length-take, get_or-take}
use Rattle.laws.specs.Tabulate.{tabulate}
use Rattle.laws.proofs.Tabulated.{tabulate_same}
use Rattle.window.specs.Window.{level_of}
use Rattle.event.specs.declared.RxCompletedEvent.{RxCompletedEvent}
use Rattle.rx_decode.specs.declared.LowRuns.{LowRuns}
use Rattle.rx_decode.specs.Reading.{ticks_of, low_run_of}
use Rattle.rx_decode.specs.Code.{low_runs, after_ticks, level_in, after_byte}
use Rattle.rx_decode.proofs.Longest.{longest, turn, from_start, at_end, ticks-≤}
use Rattle.rx_decode.proofs.longest_dominant_run_ticks.Invariants.{all, left}
use Rattle.rx_decode.proofs.longest_dominant_run_ticks.Goals as goal

-- eight ticks from the first of byte i on are that byte's
of_byte : (samples : List ℕ) (i k : ℕ) → k < 8 → level_of samples (i * 8 + k) ≡ level_in (get_or samples i 0) k
of_byte samples i k h =
    let place : (i * 8 + k) / 8 ≡ i = omega arith in
    let within : (i * 8 + k) % 8 ≡ k = omega arith in
    rw (place, within)

one_more : (samples : List ℕ) (n i : ℕ) (runs next : LowRuns) → i < n → left samples n i runs ≡ all samples n
    → next ≡ after_byte runs (get_or samples i 0) → left samples n (i + 1) next ≡ all samples n
unfolding after_byte
one_more samples n i runs next h inv e =
    let bytes = tabulate_same 8 (λ k. level_of samples (i * 8 + k)) (level_in (get_or samples i 0)) (of_byte samples i) in
    let place : (i + 1) * 8 ≡ i * 8 + 8 = omega arith in
    rw (e, place, ← bytes) (sym (turn (level_of samples) (i * 8) 8 (n * 8) (omega arith) runs) ∙ inv)

done : (ev : RxCompletedEvent) (n i : ℕ) (runs : LowRuns) → n ≡ min ev.sample_count 64 → n ≤ i → left ev.samples n i runs ≡ all ev.samples n
    → runs.best ≡ low_run_of ev
unfolding ticks_of
done ev n i runs en h inv =
    let e : runs ≡ all ev.samples n = sym (at_end (level_of ev.samples) (i * 8) (n * 8) (omega arith) runs) ∙ inv in
    rw (e, en) (longest (tabulate (min ev.sample_count 64 * 8) (level_of ev.samples)))

byte-≤ : (runs : LowRuns) (byte : ℕ) → (after_byte runs byte).run ≤ runs.run + 8
unfolding after_byte
byte-≤ runs byte = ticks-≤ 8 (level_in byte) runs

pub loop-byte-init : goal.loop-byte-init
loop-byte-init c = record { grown = omega arith; same = ap (after_ticks (low_runs 0 0)) (from_start _ _) }

pub loop-byte-preserved : goal.loop-byte-preserved
loop-byte-preserved c =
    let samples = c.args.ev.samples in
    let grown = byte-≤ c.loop-byte.runs (get_or samples c.loop-byte.byte-index 0) in
    let within : c.loop-byte.byte-index < c.samples_kept-n.result = omega (arith, length-take {A = ℕ}) in
    let next : c.after_byte-runs.result ≡ after_byte c.loop-byte.runs (get_or samples c.loop-byte.byte-index 0) =
    c.after_byte-runs.ensures ∙ ap (after_byte c.loop-byte.runs) (get_or-take c.samples_kept-n.result samples c.loop-byte.byte-index 0 within) in
    record {
      grown = rw next (omega (arith, grown));
      same = one_more samples _ _ _ _ within c.loop-byte.invariant.same next;
    }

pub returns : goal.returns
returns c = done _ _ _ _ c.samples_kept-n.ensures (omega arith) c.loop-byte.invariant.same
