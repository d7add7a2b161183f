-- What sessions are told as durable, from one answer to the next.
use Rattle.std.specs.Prelude.{◌<◌, ℕ, List}
use Rattle.law_opening.specs.Below.fkv_opening.TheOpened.{Opened}
use Rattle.fkv_plane.specs.declared.places.SessionWord.TheVariants.{Durable}
use Rattle.fkv_plane.specs.Asked.{word_at}
use Rattle.fkv_plane.specs.Places.{session_place}
use Rattle.law_commit.specs.Below.fkv_world.World.{Event, Now}
use Rattle.law_commit.specs.ToldDurable.{NoneFalls}
use Rattle.law_order.specs.Prefix.Law.{past_so_far}
use Rattle.law_order.specs.Rules.Ordered.{now_after}

-- no answer to a session tells less than an earlier one, and none more than its durable word
abbrev pub ToldNeverFalls : Opened → Now → List ℕ → List Event → Type 0
ToldNeverFalls o n bytes events =
    (session : ℕ) → session < n.places.sessions → NoneFalls (word_at (now_after n bytes events).words (session_place session Durable)) ((past_so_far n bytes events).told session)
