pub mod EnergyRows
pub mod EnergyScripts
pub mod EnergyValues
pub mod WantedEnergies
