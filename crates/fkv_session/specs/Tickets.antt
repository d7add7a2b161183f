-- The tickets that answers give to the reads that wait.
use Rattle.std.specs.Prelude.{◌≡◌, ⊤, ℕ, ◌+◌, ◌-◌, ◌^◌, ◌<◌, ◌⊎◌, List, [], ◌∷◌}
use Rattle.fkv_session.specs.declared.answers.Told.{Told}
use Rattle.fkv_session.specs.declared.answers.Told.TheVariants as told
use Rattle.fkv_session.specs.SessionRun.{Telling}

-- the ticket of a read that an answer accepts, before these
abbrev pub with_ticket : Told → List ℕ → List ℕ
with_ticket (told.PendingRead ticket) tickets = ticket.0 ∷ tickets
with_ticket its tickets = tickets

-- the tickets that answers gave, the newest first
abbrev pub tickets_given : List Telling → List ℕ
tickets_given [] = []
tickets_given (it ∷ before) = with_ticket it.its (tickets_given before)

-- 0 where none was given
abbrev pub newest_ticket : List ℕ → ℕ
newest_ticket [] = 0
newest_ticket (ticket ∷ before) = ticket

-- the next number, and behind the greatest one of a word 1
abbrev pub ComesBehind : ℕ → ℕ → Type 0
ComesBehind before ticket = ((before < 2 ^ 64 - 1) × (ticket ≡ before + 1)) ⊎ ((before ≡ 2 ^ 64 - 1) × (ticket ≡ 1))

abbrev pub ComeInTurn : List ℕ → Type 0
ComeInTurn [] = ⊤
ComeInTurn (ticket ∷ before) = ComesBehind (newest_ticket before) ticket × ComeInTurn before

-- Tickets are given one after another, from 1 on, and the newest is the session's.
pub record AreTicketsInTurn (ticket : ℕ) (told : List Telling) : Type 0 where
  pub in_turn : ComeInTurn (tickets_given told)
  pub newest : ticket ≡ newest_ticket (tickets_given told)
