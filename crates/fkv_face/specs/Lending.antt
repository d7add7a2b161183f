-- What is held ends as what is left behind the reference to it.
use Rattle.std.specs.Borrow.{Lends, MutBor, Fml}
use Rattle.fkv_handles.specs.declared.keepers.Keeper.{Keeper}
use Rattle.fkv_handles.specs.declared.sessions.Session.{Session}
use Rattle.fkv_handles.specs.declared.stores.Store.{Store}
use Rattle.fkv_handles.specs.contracts.keepers.Keeper.{the_row as keeper_row}
use Rattle.fkv_handles.specs.contracts.sessions.Session.{the_row as session_row}
use Rattle.fkv_handles.specs.contracts.stores.Store.{the_row as store_row}
use Rattle.fkv_face.specs.declared.held_keeper.HeldKeeper.{HeldKeeper}
use Rattle.fkv_face.specs.declared.held_session.HeldSession.{HeldSession}
use Rattle.fkv_face.specs.declared.held_store.HeldStore.{HeldStore}
use Rattle.fkv_face.specs.contracts.held_keeper.HeldKeeper.{the_row as held_keeper}
use Rattle.fkv_face.specs.contracts.held_session.HeldSession.{the_row as held_session}
use Rattle.fkv_face.specs.contracts.held_store.HeldStore.{the_row as held_store}

abbrev pub LendsSession : MutBor HeldSession → MutBor Session → Fml
LendsSession s r = Lends held_session session_row s r (λ w. record s.now { value = w })

abbrev pub LendsKeeper : MutBor HeldKeeper → MutBor Keeper → Fml
LendsKeeper s r = Lends held_keeper keeper_row s r (λ w. record s.now { value = w })

abbrev pub LendsStore : MutBor HeldStore → MutBor Store → Fml
LendsStore s r = Lends held_store store_row s r (λ w. record s.now { value = w })
