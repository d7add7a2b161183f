-- How the machine comes to where the line stands.
use Rattle.std.proofs.Common.{◌≡◌, ℕ, ◌+◌, ◌<◌, ◌≤◌, refl, sym, ap, ◌∙◌, List, [], ◌∷◌, length, drop, get_or, zero, suc, arith, add-one, drop-cons}
use Rattle.fkv_map.specs.declared.operations.Call.{Call}
use Rattle.fkv_session.specs.Alike.{StandAlike}
use Rattle.fkv_session.specs.Sessions.{Seat, SessionState, Sitter, session_begun, session_next}
use Rattle.fkv_straight.specs.Standing.{leads, begins, replayed}

replay_one : (k : Seat) (s : SessionState) (reply : ℕ) (later : List ℕ) → replayed k s (reply ∷ later) ≡ replayed k (leads k s reply) later
unfolding replayed
replay_one k s reply later = refl

replay_none : (k : Seat) (s : SessionState) → replayed k s [] ≡ s
unfolding replayed
replay_none k s = refl

pub begin_comes : (m n : Sitter) (its : Call) → n ≡ record m { state = session_begun m.seat m.state its } → (n.seat ≡ m.seat) × (n.state ≡ begins m.seat m.state its)
unfolding begins
begin_comes m n its e = (ap (λ (x : Sitter). x.seat) e, ap (λ (x : Sitter). x.state) e)

pub step_comes : (k : Seat) (m n : Sitter) (reply : ℕ) → m.seat ≡ k → n ≡ record m { state = session_next m.seat m.state reply } → (n.seat ≡ k) × (n.state ≡ leads k m.state reply)
unfolding leads
step_comes k m n reply h e = (ap (λ (x : Sitter). x.seat) e ∙ h, ap (λ (x : Sitter). x.state) e ∙ ap (λ (q : Seat). session_next q m.state reply) h)

pub replies_alike : (k : Seat) (s t : SessionState) (reply : ℕ) → StandAlike (session_next k s reply) (session_next k t reply) → StandAlike (leads k s reply) (leads k t reply)
unfolding leads
replies_alike k s t reply alike = alike

pub replay_next : (k : Seat) (s t final : SessionState) (told : List ℕ) (i reply : ℕ) → i < length told → reply ≡ get_or told i 0 → t ≡ leads k s reply → replayed k s (drop i told) ≡ final → replayed k t (drop (i + 1) told) ≡ final
replay_next k s t final told i reply few its e left =
    let d : drop i told ≡ get_or told i 0 ∷ drop (i + 1) told = rw (add-one, drop-cons told i 0) refl in
    ap (λ (x : SessionState). replayed k x (drop (i + 1) told)) (e ∙ ap (λ (n : ℕ). leads k s n) its)
    ∙ (sym (replay_one k s (get_or told i 0) (drop (i + 1) told)) ∙ (ap (λ (l : List ℕ). replayed k s l) (sym d) ∙ left))

drop_past : (told : List ℕ) (i : ℕ) → length told ≤ i → drop i told ≡ []
drop_past [] zero h = refl
drop_past [] (suc i) h = refl
drop_past (x ∷ xs) zero h = absurd (omega arith)
drop_past (x ∷ xs) (suc i) h = drop_past xs i (omega arith)

pub replay_end : (k : Seat) (s final : SessionState) (told : List ℕ) (i : ℕ) → length told ≤ i → replayed k s (drop i told) ≡ final → s ≡ final
replay_end k s final told i h left = sym (replay_none k s) ∙ (ap (λ (l : List ℕ). replayed k s l) (sym (drop_past told i h)) ∙ left)
