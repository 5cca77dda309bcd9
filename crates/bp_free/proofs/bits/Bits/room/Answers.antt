use Rattle.bp_free.proofs.Words.{room_seen}
use Rattle.bp_free.proofs.bits.Bits.room.Goals as goal

pub returns : goal.returns
returns c = room_seen _ _ _ c.self.view_is
