-- A read, by any view of the input.
use Rattle.std.proofs.Common.{rules, ◌≡◌, ℕ, ◌+◌, ◌-◌, ◌≤◌, Bool, List, ◌++◌, length, take, sym, ap, ◌∙◌, arith}
use Rattle.std.proofs.lemmas.List.{length-take-le, take-take}
use Rattle.std.specs.Prelude.{Option, slice_range}
use Rattle.hippo_io.specs.declared.lines.LineFault.{LineFault}
use Rattle.hippo_io.specs.Position.{Position}
use Rattle.hippo_io.proofs.ReadLemmas.{take_over, refilled_bytes}
use Rattle.hippo_io.proofs.lines.LineReader.refill.Given.{Over}
use Rattle.hippo_io.proofs.lines.LineReader.refill.Goals as goal

-- the bytes that wait before the read, and after it
record Waiting (g : Over) (c : goal.Else-self-gt-INPUT_LIMIT g) : Type 0 where
  front : take (c.self.inside.end - c.self.inside.start) c.as_mut_slice-2.result.now ≡ c.args.self.now.waiting
  size : length c.args.self.now.waiting ≡ c.self.inside.end - c.self.inside.start
  kept : take (c.self.inside.end - c.self.inside.start) c.read_after.new.buffer ≡ c.args.self.now.waiting
  room : length c.read_after.new.buffer ≡ c.self.inside.buffer.len

waiting : (g : Over) (c : goal.Else-self-gt-INPUT_LIMIT g) → Waiting g c
waiting g c =
    let m = c.self.inside.end - c.self.inside.start in
    let cap = c.self.inside.buffer.len in
    let moved : c.as_mut_slice-2.result.now ≡ c.move_to_front.new.buffer =
    c.as_mut_slice-2.ensures.value ∙ take_over cap _ c.move_to_front.new.buffer (c.move_to_front.auto.buffer ∙ c.as_mut_slice.ensures.len) in
    let front : take m c.as_mut_slice-2.result.now ≡ c.args.self.now.waiting =
    ap (take m) moved ∙ c.move_to_front.ensures ∙ ap (λ l. slice_range l c.self.inside.start c.self.inside.end) c.as_mut_slice.ensures.value ∙ ap (λ p. p.waiting) c.self.view_is in
    let within : m ≤ length c.as_mut_slice-2.result.now = omega (arith, c.self.invariant.in_buffer, c.as_mut_slice-2.ensures.len) in
    record {
      front = front;
      size = ap length (sym front) ∙ length-take-le m c.as_mut_slice-2.result.now within;
      kept = c.in-Ok.ensures.kept ∙ front;
      room = c.read_after.auto.buffer ∙ c.as_mut_slice-2.ensures.len;
    }

pub returns-then-self-gt-INPUT_LIMIT-clause-failed : goal.returns-then-self-gt-INPUT_LIMIT-clause-failed
returns-then-self-gt-INPUT_LIMIT-clause-failed g c = λ input fits. let taken = c.in-Ok.ensures.taken input fits in search rules

pub returns-else-self-gt-INPUT_LIMIT-clause-more : goal.returns-else-self-gt-INPUT_LIMIT-clause-more
returns-else-self-gt-INPUT_LIMIT-clause-more g c = λ input fits.
    let w = waiting g c in
    let m = c.self.inside.end - c.self.inside.start in
    let n = c.in-Ok.n in
    let new = c.read_after.new.buffer in
    let now = refilled_bytes c.self.inside.buffer.len (m + n) _ new w.room in
    let within : m + n ≤ length new = omega (arith, c.in-Ok.ensures.count, c.read_after.auto.buffer) in
    let shorter : m ≤ m + n = omega arith in
    let taken = c.in-Ok.ensures.taken input fits in
    record {
      going = record { unended = ap (λ p. p.ended) c.self.view_is ∙ c.requires.going.unended; unfailed = ap (λ p. p.failure) c.self.view_is ∙ c.requires.going.unfailed };
      waiting = λ told is. let t = taken told is in (t.0, now ∙ t.1 ∙ ap (λ l. l ++ take n told) w.front, t.2);
      front = ap (λ l. take (length c.args.self.now.waiting) l) now ∙ ap (λ k. take k (take (m + n) new)) w.size ∙ take-take m (m + n) new shorter ∙ w.kept;
      count = ap length now ∙ length-take-le (m + n) new within ∙ ap (λ k. k + n) (sym w.size);
      taken = ap (λ p. p.taken + n) c.self.view_is;
      limit = c.if-self-gt-INPUT_LIMIT.false;
    }

pub returns-else-self-gt-INPUT_LIMIT-clause-end : goal.returns-else-self-gt-INPUT_LIMIT-clause-end
returns-else-self-gt-INPUT_LIMIT-clause-end g c = λ none.
    let w = waiting g c in
    let m = c.self.inside.end - c.self.inside.start in
    let n = c.in-Ok.n in
    let new = c.read_after.new.buffer in
    let nothing : m + n ≡ m = omega (arith, none) in
    let before : c.self.inside.taken ≡ c.args.self.now.taken = ap (λ p. p.taken) c.self.view_is in
    let taken : c.self.inside.taken + n ≡ c.args.self.now.taken = omega (arith, none, before) in
    let ended : c.self.inside.ended ≡ c.args.self.now.ended = ap (λ p. p.ended) c.self.view_is in
    let failure : c.self.inside.failure ≡ c.args.self.now.failure = ap (λ p. p.failure) c.self.view_is in
    let bytes = refilled_bytes c.self.inside.buffer.len (m + n) _ new w.room ∙ ap (λ k. take k new) nothing ∙ w.kept in
    let at : List ℕ → ℕ → Bool → Option LineFault → Position = λ ws tk over fault. record { waiting = ws; taken = tk; ended = over; failure = fault } in (
      ap (λ ws. at ws (c.self.inside.taken + n) c.self.inside.ended c.self.inside.failure) bytes
          ∙ ap (λ tk. at c.args.self.now.waiting tk c.self.inside.ended c.self.inside.failure) taken
          ∙ ap (λ over. at c.args.self.now.waiting c.args.self.now.taken over c.self.inside.failure) ended
          ∙ ap (at c.args.self.now.waiting c.args.self.now.taken c.args.self.now.ended) failure,
      c.in-Ok.ensures.end none,
    )
