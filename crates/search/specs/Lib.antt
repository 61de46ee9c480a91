-- In the order of the document: fixed pairs, the machine (rules 3 to 5 and the budget), the numbers answered, the calls. `Choices` and `Closing`
-- follow for the functions inside: how open choices stand in the lent work, and what the closing check is handed; no call's promise cites them.
pub mod Partners
pub mod Machine
pub mod Answer
pub mod Find
pub mod Choices
pub mod Closing
