-- What only the code, its proofs and the crates' calls of one another need: no promise rests on what is said here.
pub mod Digits
