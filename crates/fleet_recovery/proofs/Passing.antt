-- Calls one after another: what they leave, and how often they failed.
pub use Rattle.station_api.proofs.Moments.{quiet_on, counted_on}
