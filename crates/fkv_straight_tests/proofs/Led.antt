-- Where a line stands: at rest, behind its first reply, and behind one more.
use Rattle.std.proofs.Common.{◌≡◌, ℕ, refl, sym, List, [], ◌∷◌, ◌++◌, Option, Some, None, false}
use Rattle.fkv_map.specs.declared.operations.Call.{Call}
use Rattle.fkv_session.specs.Alike.{lasting}
use Rattle.fkv_session.specs.Sessions.{Seat, SessionState, Sitter, is_busy}
use Rattle.fkv_straight.specs.Standing.{begins, leads, replayed}
use Rattle.fkv_straight_tests.specs.Lines.{standing}

replayed_more : (k : Seat) (s : SessionState) (told : List ℕ) (reply : ℕ) → replayed k s (told ++ reply ∷ []) ≡ leads k (replayed k s told) reply
unfolding replayed
replayed_more k s [] reply = refl
replayed_more k s (first ∷ later) reply = replayed_more k (leads k s first) later reply

pub rests_idle : (m : Sitter) (call : Option Call) (told : List ℕ) → call ≡ None → is_busy (standing m call told).step ≡ false
unfolding standing
rests_idle m call told none = rw none refl

pub rests_alike : (m n : Sitter) (call : Option Call) (told : List ℕ) → n ≡ m → call ≡ None → lasting m.state ≡ lasting (standing n call told)
unfolding standing lasting
rests_alike m n call told same none = rw (same, none) refl

pub stands_first : (m n : Sitter) (old new : Option Call) (call : Call) (told all : List ℕ) (reply : ℕ) → n ≡ m → old ≡ None → new ≡ Some call → all ≡ [] ++ reply ∷ []
    → standing n new all ≡ leads m.seat (begins m.seat (standing m old told) call) reply
unfolding standing replayed
stands_first m n old new call told all reply same none some more = rw (same, none, some, more) refl

pub led_first : (m n : Sitter) (old new : Option Call) (call : Call) (told all : List ℕ) (reply : ℕ) → n ≡ m → old ≡ None → new ≡ Some call → all ≡ [] ++ reply ∷ []
    → standing n new all ≡ replayed n.seat (begins m.seat (standing m old told) call) all
unfolding standing
led_first m n old new call told all reply same none some more = rw (same, none, some) refl

pub stands_more : (m n : Sitter) (old new : Option Call) (call : Call) (told all : List ℕ) (reply : ℕ) → n ≡ m → old ≡ Some call → new ≡ old → all ≡ told ++ reply ∷ []
    → standing n new all ≡ leads m.seat (standing m old told) reply
unfolding standing
stands_more m n old new call told all reply same some kept more = rw (same, kept, some, more) (replayed_more m.seat (begins m.seat (standing m None told) call) told reply)

pub led_more : (m n : Sitter) (s t from : SessionState) (told all : List ℕ) (reply : ℕ) → n ≡ m → all ≡ told ++ reply ∷ [] → t ≡ leads m.seat s reply
    → s ≡ replayed m.seat from told → t ≡ replayed n.seat from all
led_more m n s t from told all reply same more next led = rw (same, more, next, led) (sym (replayed_more m.seat from told reply))
