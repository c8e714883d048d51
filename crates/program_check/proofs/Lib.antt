-- Laws of the program check's parts, each file by its subject. Assumes nothing.
pub mod Below
pub mod EntryTests
pub mod InstructionTests
pub mod AreaTests
pub mod KeyTests
pub mod KeyPlaces
pub mod FunctionTests
pub mod ConstantTests
pub mod WholeTests
pub mod OneMemory
pub mod Cases
