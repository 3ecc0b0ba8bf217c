-- The parts of the device may go from thread to thread.
pub use Rattle.step_parts.proofs.Sent.{part_send}
