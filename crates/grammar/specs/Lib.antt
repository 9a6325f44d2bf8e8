-- `Lex`, `Tree` and `Outcome` are what a reader must believe; TokensCode and GrammarCode serve contracts.
pub mod Tree
pub mod Outcome
pub mod Lex
pub mod TokensCode
pub mod GrammarCode
