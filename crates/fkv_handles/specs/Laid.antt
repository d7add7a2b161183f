-- Calls on keys as they lie in the store.
use Rattle.fkv_base.specs.declared.numbers.Key.{Key}
use Rattle.fkv_map.specs.declared.operations.Call.{Call}
use Rattle.fkv_map.specs.declared.operations.Call.TheVariants as call
use Rattle.fkv_map.specs.declared.operations.Op.{Op}
use Rattle.fkv_map.specs.declared.operations.Op.TheVariants as op
use Rattle.fkv_spread.specs.Spreading.{lies_under}
use Rattle.fkv_spread.specs.declared.keys.Keys.{Keys}

abbrev pub laid_key : Keys → Key → Key
laid_key keys key = record { 0 = lies_under keys key.0 }

abbrev pub laid_op : Keys → Op → Op
laid_op keys (op.Upsert key value) = op.Upsert (laid_key keys key) value
laid_op keys (op.Delete key) = op.Delete (laid_key keys key)
laid_op keys (op.Add key number) = op.Add (laid_key keys key) number
laid_op keys (op.Max key number) = op.Max (laid_key keys key) number
laid_op keys (op.Read key) = op.Read (laid_key keys key)
laid_op keys (op.Merge key which number) = op.Merge (laid_key keys key) which number

abbrev pub laid_call : Keys → Call → Call
laid_call keys (call.Op op) = call.Op (laid_op keys op)
laid_call keys call.Refresh = call.Refresh
laid_call keys call.Poll = call.Poll
laid_call keys call.Sleep = call.Sleep
laid_call keys call.Wake = call.Wake
laid_call keys call.Durable = call.Durable
