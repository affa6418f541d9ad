-- lemmas that several proofs share
mod Lengths
