-- How the next page is opened, or the oldest one's frame is set free for it.
use Rattle.std.specs.Prelude.{◌≡◌, ◌⊎◌, ℕ, List, [], ◌∷◌, ◌+◌, ◌-◌, ◌*◌, ◌/◌, ◌<◌, min, nat_lt, nat_le, if◌then◌else◌, ⊤}
use Rattle.fkv_base.specs.declared.shapes.Shape.{Shape}
use Rattle.fkv_plane.specs.declared.asks.Ask.{Ask}
use Rattle.fkv_plane.specs.declared.asks.Ask.TheVariants.{Load, Cas, Done}
use Rattle.fkv_plane.specs.declared.places.SharedWord.TheVariants as one
use Rattle.fkv_plane.specs.Places.{shared_place}
use Rattle.fkv_plane.specs.Passing.{passed}
use Rattle.fkv_log.specs.declared.moving.MoveAnswer.{MoveAnswer}
use Rattle.fkv_log.specs.declared.moving.MoveAnswer.TheVariants as answer
use Rattle.fkv_log.specs.declared.moving.Offset.TheVariants.{Head}
use Rattle.fkv_log.specs.declared.turning.TurnForm.{TurnForm}
use Rattle.fkv_log.specs.declared.turning.TurnForm.TheVariants.{Whole, OpensOnly}
use Rattle.fkv_log.specs.declared.turning.Turning.{Turning}
use Rattle.fkv_log.specs.declared.turning.Turning.TheVariants.{AtRest, LoadsLimit, LoadsClosed, RaisesLimit, LoadsHead, LoadsFlushed, Moves}
use Rattle.fkv_log.specs.Moving.{Mover, move_at_rest, move_begun, move_ask, move_next, move_next_ask, move_asks_left, move_asks_most}

-- its own step, and the move inside it
pub record TurnState : Type 0 where
  pub step : Turning
  pub mover : Mover

pub record Turner : Type 0 where
  pub shape : Shape
  pub state : TurnState

abbrev pub turn_at : Turning → Mover → TurnState
turn_at step m = record { step = step; mover = m }

-- the limit is loaded first, with no move under way
abbrev pub turn_begun : TurnForm → ℕ → TurnState
turn_begun form tail = turn_at (LoadsLimit form tail) move_at_rest

-- how many pages are to be open: those up to the one past the tail's, as far as the device has them
abbrev pub pages_wanted : Shape → ℕ → ℕ
pages_wanted shape tail = min (tail / shape.page + 2) shape.disk_pages

-- the limit once the page at this one is open
abbrev pub limit_after : Shape → ℕ → ℕ
limit_after shape limit = (limit / shape.page + 1) * shape.page

-- the page at the limit gets the frame of a page that ends here: what is below has to be closed before
abbrev pub frame_end : Shape → ℕ → ℕ
frame_end shape limit = (limit / shape.page + 1 - shape.frames) * shape.page

-- a limit that is raised is the start of a page on the device
abbrev pub IsTurnInRange : Shape → Turning → Type 0
IsTurnInRange shape (LoadsClosed form limit) = limit / shape.page < shape.disk_pages
IsTurnInRange shape (RaisesLimit limit) = limit / shape.page < shape.disk_pages
IsTurnInRange shape step = ⊤

-- what each state asks
unfoldable pub turning_ask : Shape → Turning → Mover → Ask MoveAnswer
turning_ask shape AtRest m = Done answer.Through
turning_ask shape (LoadsLimit form tail) m = Load (shared_place one.Limit)
turning_ask shape (LoadsClosed form limit) m = Load (shared_place one.Closed)
turning_ask shape (RaisesLimit limit) m = Cas (shared_place one.Limit) limit (limit_after shape limit)
turning_ask shape (LoadsHead end) m = Load (shared_place one.Head)
turning_ask shape (LoadsFlushed end) m = Load (shared_place one.Flushed)
turning_ask shape Moves m = passed (move_ask m) answer.Through

abbrev pub turn_ask : Shape → TurnState → Ask MoveAnswer
turn_ask shape s = turning_ask shape s.step s.mover

-- where the frame is not free yet the whole turn goes on to set it free, and a turn that opens only is through
abbrev pub frame_taken : TurnForm → ℕ → Turning
frame_taken Whole end = LoadsHead end
frame_taken OpensOnly end = AtRest

-- by what the move asks next: the turn is at rest once the move is
unfoldable pub turn_led : Mover → Ask MoveAnswer → TurnState
turn_led m (Done inner) = turn_at AtRest m
turn_led m ask = turn_at Moves m

-- Where the reply leads. The limit is raised where all below the frame's end is closed. Else the whole turn moves the head there,
-- where it isn't yet and all below is flushed.
unfoldable pub turning_next : Shape → Turning → Mover → ℕ → TurnState
turning_next shape AtRest m reply = turn_at AtRest m
turning_next shape (LoadsLimit form tail) m reply = turn_at (if nat_lt (reply / shape.page) (pages_wanted shape tail) then LoadsClosed form reply else AtRest) m
turning_next shape (LoadsClosed form limit) m reply = turn_at (if nat_le (frame_end shape limit) reply then RaisesLimit limit else frame_taken form (frame_end shape limit)) m
turning_next shape (RaisesLimit limit) m reply = turn_at AtRest m
turning_next shape (LoadsHead end) m reply = turn_at (if nat_lt reply end then LoadsFlushed end else AtRest) m
turning_next shape (LoadsFlushed end) m reply = if nat_le end reply then turn_at Moves (move_begun Head end) else turn_at AtRest m
turning_next shape Moves m reply = turn_led (move_next m reply) (move_next_ask m reply)

abbrev pub turn_next : Shape → TurnState → ℕ → TurnState
turn_next shape s reply = turning_next shape s.step s.mover reply

-- where the move ends its answer is the turn's, and else what the next state asks
unfoldable pub turn_told : Shape → Ask MoveAnswer → TurnState → Ask MoveAnswer
turn_told shape (Done inner) next = Done inner
turn_told shape ask next = turn_ask shape next

-- what is asked next: at an end of the move its answer, and else what the next state asks
unfoldable pub turning_next_ask : Shape → Turning → Mover → ℕ → Ask MoveAnswer
turning_next_ask shape Moves m reply = turn_told shape (move_next_ask m reply) (turning_next shape Moves m reply)
turning_next_ask shape step m reply = turn_ask shape (turning_next shape step m reply)

abbrev pub turn_next_ask : Shape → TurnState → ℕ → Ask MoveAnswer
turn_next_ask shape s reply = turning_next_ask shape s.step s.mover reply

-- how many asks come once the closed offset is loaded, at most: two loads and those of a move, or the one that raises the limit
abbrev pub asks_past_closed : TurnForm → ℕ
asks_past_closed Whole = move_asks_most + 2
asks_past_closed OpensOnly = 1

-- how many asks it has left, at most
unfoldable pub turning_asks_left : Turning → Mover → ℕ
turning_asks_left AtRest m = 0
turning_asks_left (LoadsLimit form tail) m = asks_past_closed form + 2
turning_asks_left (LoadsClosed form limit) m = asks_past_closed form + 1
turning_asks_left (RaisesLimit limit) m = 1
turning_asks_left (LoadsHead end) m = move_asks_most + 2
turning_asks_left (LoadsFlushed end) m = move_asks_most + 1
turning_asks_left Moves m = move_asks_left m

abbrev pub turn_asks_left : TurnState → ℕ
turn_asks_left s = turning_asks_left s.step s.mover

-- the turn after these replies, of which the first was given first
abbrev pub turn_after : Shape → TurnState → List ℕ → TurnState
turn_after shape s [] = s
turn_after shape s (reply ∷ replies) = turn_after shape (turn_next shape s reply) replies

-- an ask to load the limit or the closed offset, to swap the limit, or none more
abbrev pub OpensAlone : Ask MoveAnswer → Type 0
OpensAlone (Load place) = (place ≡ shared_place one.Limit) ⊎ (place ≡ shared_place one.Closed)
OpensAlone (Cas place old new) = place ≡ shared_place one.Limit
OpensAlone (Done how) = ⊤
OpensAlone ask = ⊥

-- what a turn that opens only asks for, whatever it was replied, and after one more reply
pub record IsOpeningAlone (shape : Shape) (tail : ℕ) (replies : List ℕ) : Type 0 where
  pub now : OpensAlone (turn_ask shape (turn_after shape (turn_begun OpensOnly tail) replies))
  pub next : (reply : ℕ) → OpensAlone (turn_next_ask shape (turn_after shape (turn_begun OpensOnly tail) replies) reply)

-- a session's turn moves no head: it touches the limit and looks at the closed offset, and no more
abbrev pub TurnsOpeningAlone : Type 0
TurnsOpeningAlone = (shape : Shape) (tail : ℕ) (replies : List ℕ) → IsOpeningAlone shape tail replies

-- A ring of two frames of four records each, on a device of five pages. With the tail at 13, in page 3, page 4 is wanted, the last; its frame is
-- free once all below 12 is closed, and then the limit goes from 16 to 20. With the tail in page 4 no other is wanted.
-- With the tail at 5, in page 1, three pages are wanted, and the device has more.
pub record IsWorkedTurn (shape : Shape) : Type 0 where
  pub wanted : pages_wanted shape 13 ≡ 5
  pub no_more : pages_wanted shape 17 ≡ 5
  pub below_the_last : pages_wanted shape 5 ≡ 3
  pub its_frame : frame_end shape 16 ≡ 12
  pub limit : limit_after shape 16 ≡ 20

abbrev pub TurnsLastPage : Type 0
TurnsLastPage = (shape : Shape) → shape.page ≡ 4 → shape.frames ≡ 2 → shape.disk_pages ≡ 5 → IsWorkedTurn shape
