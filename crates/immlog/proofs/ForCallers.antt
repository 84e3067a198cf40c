-- What crates above cite of this one's proofs, and no other file: what holds of each moment that goes by in one step and
-- then in another.
pub use Rattle.immlog.proofs.Moments.{since_now, since_same, since_then, since_weaker}
