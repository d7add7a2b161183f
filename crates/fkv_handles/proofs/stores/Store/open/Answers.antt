-- The handles are those of a table over the store.
use Rattle.std.proofs.Common.{◌∙◌, refl, sym, ap, length}
use Rattle.std.proofs.lemmas.List.{length-map}
use Rattle.fkv_posted.specs.contracts.posted.PostedDevice.TheImpl as medium
use Rattle.fkv_threads.specs.Below.fkv_table.Planes.{opening_of}
use Rattle.fkv_handles.proofs.Shares.{first_places, over_at}
use Rattle.fkv_handles.proofs.stores.Store.open.Goals as goal

pub returns-clause-opened : goal.returns-clause-opened
returns-clause-opened c =
    let made = c.in_ok-table.ensures in
    record {
      opened = c.in_ok-opened.opened;
      is_store = c.in_ok-opened.ensures.store;
      warm = c.in_ok-opened.ensures.warm;
      recovered = c.in_ok-told.ensures.told;
      key = c.in_ok-table.field-0.table.value.table.shared.key;
      table = c.in_ok-table.field-0.table.value.table.shared.table_id;
      over = over_at (opening_of medium.seen-value.it) _ _ _ _ c.in_ok-opened.ensures.seen made.over;
      count = ap length c.in_ok-sessions.ensures.same ∙ (length-map _ _ ∙ made.count);
      sessions = first_places _ _ _ _ c.in_ok-sessions.ensures.same made.sessions;
      keeper = c.in_ok-table.field-0.keeper;
      has_keeper = refl;
      device = _;
      first = made.keeper;
      laid = refl;
      is_open = refl;
    }
