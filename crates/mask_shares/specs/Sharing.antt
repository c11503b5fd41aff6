-- What a list of shares stands for (Ishai, Sahai and Wagner 2003).
pub use Rattle.mask_circuit.specs.Sharing.{listed, all_listed, unmasked, shared, all_shared}
