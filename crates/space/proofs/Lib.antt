-- Laws about the definitions of `space`: places that stand in a list of numbers.
pub mod Triples
