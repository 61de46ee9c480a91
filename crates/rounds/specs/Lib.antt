-- In the order of the search rules: the first colours (rule 1), the key of an element and a round (rule 2), what a round comes to (rule 3), the
-- smallest class that is open (rule 5). `Parts` and `Board` follow for the functions inside, colours by the parts of a file and how a round uses the
-- lent work; no call's promise cites them.
pub mod Colours
pub mod Keys
pub mod Round
pub mod Classes
pub mod Parts
pub mod Board
