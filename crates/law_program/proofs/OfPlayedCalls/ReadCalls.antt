-- The number of a read is its call's own, so no later line calls it again.
use Rattle.std.proofs.Common.{◌≡◌, ◌<◌, ◌+◌, ℕ, List, [], ◌∷◌, ◌++◌, arith, inl, inr, length, refl, sym}
use Rattle.fkv_base.specs.declared.numbers.Key.{Key}
use Rattle.fkv_map.specs.declared.operations.Call.{Call}
use Rattle.fkv_map.specs.declared.operations.Call.TheVariants as call
use Rattle.fkv_map.specs.declared.operations.Op.TheVariants as op
use Rattle.law_order.specs.Below.fkv_world.Past.{Answered, Called, TraceEvent, Traced}
use Rattle.law_log.specs.Trace.{CallsRead, IsIn}
use Rattle.law_order.specs.Below.law_refine.Events.Lines.{call_lines, event_lines, lines_of}
use Rattle.law_order.proofs.Below.law_refine.OfCalls.UpdateLines.{answer_calls, called_below, in_either}

-- ---- a call's line is its own
-- the call is of a read of this key
pub record IsReadOf (asked : Call) (key : ℕ) : Type 0 where
  pub its_key : Key
  pub its_op : asked ≡ call.Op (op.Read its_key)
  pub same : key ≡ its_key.0

pub reads_here : (key reader session : ℕ) (first : ℕ → ℕ) (trace : List Traced) (asked : Call) → IsIn (CallsRead reader key) (call_lines first trace session asked) → IsReadOf asked key × (reader ≡ length trace)
reads_here key reader session first trace (call.Op (op.Read k)) (inl same) =
    let number : length trace ≡ reader = cc in let its : k.0 ≡ key = cc in (record { its_key = k; its_op = refl; same = sym its }, sym number)
reads_here key reader session first trace (call.Op (op.Read k)) (inr none) = absurd none
reads_here key reader session first trace (call.Op o) (inl same) = cc
reads_here key reader session first trace (call.Op o) (inr none) = absurd none
reads_here key reader session first trace asked is_in = absurd is_in

pub called_at : (key reader : ℕ) (first : ℕ → ℕ) (trace : List Traced) (it : TraceEvent) → IsIn (CallsRead reader key) (event_lines first trace it) → reader ≡ length trace
called_at key reader first trace (Called session asked) is_in = (reads_here key reader session first trace asked is_in).1
called_at key reader first trace (Answered session its) is_in = absurd (answer_calls key reader session first trace its.its its.finished is_in)
called_at key reader first trace it is_in = absurd is_in

both_long : (added trace : List Traced) → length (added ++ trace) ≡ length added + length trace
both_long [] trace = omega arith
both_long (it ∷ added) trace = let rest = both_long added trace in omega (arith, rest)

-- no later line calls a number of before
pub called_before : (key reader : ℕ) (first : ℕ → ℕ) (added trace : List Traced) → reader < length trace → IsIn (CallsRead reader key) (lines_of first (added ++ trace)) → IsIn (CallsRead reader key) (lines_of first trace)
unfolding lines_of
called_before key reader first [] trace below is_in = is_in
called_before key reader first (it ∷ added) trace below is_in = elim (in_either (CallsRead reader key) (event_lines first (added ++ trace) it.its) (lines_of first (added ++ trace)) is_in) [
  | inl one ↦ let same = called_at key reader first (added ++ trace) it.its one in let many = both_long added trace in absurd (omega (arith, same, many, below))
  | inr other ↦ called_before key reader first added trace below other
]

-- and behind a call, and its answer, the line of its number is the call's
pub called_now : (key : ℕ) (first : ℕ → ℕ) (session e later : ℕ) (asked : Call) (answer : TraceEvent) (trace : List Traced)
    → IsIn (CallsRead (length trace) key) (lines_of first (record { its = answer; effects = later } ∷ record { its = Called session asked; effects = e } ∷ trace)) → IsReadOf asked key
unfolding lines_of
called_now key first session e later asked answer trace is_in =
    elim (in_either (CallsRead (length trace) key) (event_lines first (record { its = Called session asked; effects = e } ∷ trace) answer) (call_lines first trace session asked ++ lines_of first trace) is_in) [
      | inl one ↦ let same = called_at key (length trace) first (record { its = Called session asked; effects = e } ∷ trace) answer one in absurd (omega (arith, same))
      | inr more ↦ by_call more
    ]
  where
    by_call : IsIn (CallsRead (length trace) key) (call_lines first trace session asked ++ lines_of first trace) → IsReadOf asked key
    by_call more = elim (in_either (CallsRead (length trace) key) (call_lines first trace session asked) (lines_of first trace) more) [
      | inl one ↦ (reads_here key (length trace) session first trace asked one).0
      | inr other ↦ let low = called_below key (length trace) first trace other in absurd (omega (arith, low))
    ]
