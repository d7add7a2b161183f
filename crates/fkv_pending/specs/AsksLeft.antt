-- How many asks an attempt has left, at most: the sum of those of the machine inside that is under way, and of what may come behind it.
use Rattle.std.specs.Prelude.{ℕ, ◌+◌, ◌*◌}
use Rattle.fkv_plane.specs.declared.places.Places.{Places}
use Rattle.fkv_plane.specs.AsksLeft.{sum_left}
use Rattle.fkv_ops.specs.AsksLeft.{try_asks_left}
use Rattle.fkv_pending.specs.declared.attempting.Attempting.{Attempting}
use Rattle.fkv_pending.specs.declared.attempting.Attempting.TheVariants.{Ended, Looks, Tries, Puts}
use Rattle.fkv_pending.specs.Mailing.{mail_asks_left}
use Rattle.fkv_pending.specs.Attempting.{AttemptState}

-- those of a look into the mailbox, of a try, and of an address that is put into the mailbox
abbrev pub most_look_asks : ℕ
most_look_asks = 5

abbrev pub most_try_asks : Places → ℕ
most_try_asks p = 8 * (p.overflow + 1) + 2 * p.ring + 23

abbrev pub most_put_asks : ℕ
most_put_asks = 3

-- behind a look comes the try, and behind that an address may be put
unfoldable pub attempting_asks_left : Places → AttemptState → Attempting → ℕ
attempting_asks_left p a (Ended its) = 0
attempting_asks_left p a Looks = sum_left (mail_asks_left a.mailing) (most_try_asks p + most_put_asks)
attempting_asks_left p a Tries = sum_left (try_asks_left p a.trial) most_put_asks
attempting_asks_left p a Puts = mail_asks_left a.mailing

abbrev pub attempt_asks_left : Places → AttemptState → ℕ
attempt_asks_left p a = attempting_asks_left p a a.step
