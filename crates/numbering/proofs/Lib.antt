-- lemmas that several proofs share
mod Years
